-- `sweep_services::digest::place`: the digest is fed at each value of the byte.
-- Assumes nothing.
use Rattle.std.proofs.Common.{ℕ, refl, rules}
use Rattle.report.proofs.Swept.{swept_ran}
use Rattle.sweep_services.specs.Good.{good_size}
use Rattle.sweep_services.specs.Sweep.{changed_step}
use Rattle.sweep_services.proofs.digest.place.Goals as goal

pub returns : goal.returns
returns c =
    let count : ℕ = c.args.count in
    swept_ran (λ digest n. changed_step digest count (good_size count) c.args.place n) _ 256 c.fold.result c.fold.ensures.ran refl
    (λ digest n fed f k. search rules)
