-- `sweep_services::digest::entries`: the digest is fed at each number in turn.
-- Assumes nothing.
use Rattle.std.proofs.Common.{refl, rules}
use Rattle.report.proofs.Swept.{swept_ran}
use Rattle.sweep_services.specs.Sweep.{entry_step}
use Rattle.sweep_services.proofs.digest.entries.Goals as goal

pub returns : goal.returns
returns c =
    swept_ran (entry_step c.args.kind) _ 65536 c.fold.result c.fold.ensures.ran refl (λ digest n fed f k. search rules)
