-- `sweep_values::digest::times`: the digest is fed at each time of the hour.
-- Assumes nothing.
use Rattle.std.proofs.Common.{refl, rules}
use Rattle.report.proofs.Swept.{swept_ran}
use Rattle.sweep_values.specs.Sweep.{nth_time_fed}
use Rattle.sweep_values.proofs.digest.times.Goals as goal

pub returns : goal.returns
returns c =
    swept_ran (nth_time_fed c.args.hours) _ 1076004 c.fold.result c.fold.ensures.ran refl (λ digest n fed f k. search rules)
