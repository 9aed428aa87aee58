-- `sweep_values::digest::sequences`: the digest is fed at each low byte.
-- Assumes nothing.
use Rattle.std.proofs.Common.{refl, rules}
use Rattle.report.proofs.Swept.{swept_ran}
use Rattle.sweep_values.specs.Sweep.{nth_sequence_fed}
use Rattle.sweep_values.proofs.digest.sequences.Goals as goal

pub returns : goal.returns
returns c =
    swept_ran (nth_sequence_fed c.args.high) _ 256 c.fold.result c.fold.ensures.ran refl (λ digest n fed f k. search rules)
