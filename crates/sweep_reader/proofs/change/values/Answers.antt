-- `sweep_reader::change::values`: after so many turns so many values are read.
-- Assumes nothing.
use Rattle.std.proofs.Common.{arith, rules}
use Rattle.sweep_reader.proofs.Changes.{values_more, values_none}
use Rattle.sweep_reader.proofs.change.values.Goals as goal

pub loop-value-init : goal.loop-value-init
loop-value-init c =
    (omega arith, omega arith, omega arith, values_none _ _ _)

pub loop-value-preserved : goal.loop-value-preserved
loop-value-preserved c =
    let e = c.changed-tally.ensures in (
      omega arith,
      search rules,
      search rules,
      values_more _ _ _ _ _ _ _ _ _ _ c.loop-value.invariant.3 e.value e.packet_after e.captions_after,
    )
