-- `sweep_reader::make::entries`: after k turns the first k entries are put.
-- Assumes nothing.
use Rattle.std.proofs.Common.{arith}
use Rattle.sweep_reader.proofs.Parts.{entries_more, entries_none}
use Rattle.text.proofs.Rooms.{behind_as, nothing}
use Rattle.sweep_reader.proofs.make.entries.Goals as goal

pub loop-k-init : goal.loop-k-init
loop-k-init c =
    (omega arith, omega arith, rw (entries_none _) (nothing _ _))

pub loop-k-preserved : goal.loop-k-preserved
loop-k-preserved c = (
  omega arith,
  omega arith,
  behind_as c.loop-k.invariant.2 (rw c.bytes-bytes.ensures at c.word-at.ensures)
      (entries_more _ _),
)
