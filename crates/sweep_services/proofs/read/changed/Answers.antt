-- `sweep_services::read::changed`: the good section, one byte of it set, and cut.
-- Assumes nothing.
use Rattle.std.proofs.Common.{◌∙◌, rules}
use Rattle.sweep_services.proofs.Filled.{filled}
use Rattle.sweep_services.specs.Good.{good_byte}
use Rattle.sweep_services.specs.Sweep.{changed_step}
use Rattle.sweep_services.proofs.read.changed.Goals as goal

pub returns : goal.returns
unfolding changed_step
returns c =
    c.section.ensures
    ∙ rw (filled (good_byte c.args.count) _ _ (λ k b q called. search rules) _ 128 c.from_fn-bytes.ensures.items)
