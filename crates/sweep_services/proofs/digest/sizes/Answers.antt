-- `sweep_services::digest::sizes`: the digest is fed at each size.
-- Assumes nothing.
use Rattle.std.proofs.Common.{◌+◌, rules}
use Rattle.report.proofs.Swept.{swept_ran}
use Rattle.sweep_services.specs.Good.{good_size}
use Rattle.sweep_services.specs.Sweep.{changed_step}
use Rattle.sweep_services.proofs.digest.sizes.Goals as goal

pub returns : goal.returns
returns c =
    swept_ran (λ digest n. changed_step digest c.args.count n 0 0x73) _ (good_size c.args.count + 9) c.fold.result c.fold.ensures.ran
    (search rules) (λ digest n fed f k. search rules)
