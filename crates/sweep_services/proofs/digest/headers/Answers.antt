-- `sweep_services::digest::headers`: the digest is fed at each number in turn.
-- Assumes nothing.
use Rattle.std.proofs.Common.{refl, rules}
use Rattle.report.proofs.Swept.{swept_ran}
use Rattle.sweep_services.specs.Sweep.{header_step}
use Rattle.sweep_services.proofs.digest.headers.Goals as goal

pub returns : goal.returns
returns c =
    swept_ran (header_step c.args.header) _ 256 c.fold.result c.fold.ensures.ran refl (λ digest n fed f k. search rules)
