-- `sweep_reader::bytes::repeat`: after k turns the byte is put k times.
-- Assumes nothing.
use Rattle.std.proofs.Common.{arith}
use Rattle.text.proofs.Rooms.{again, behind_as, nothing}
use Rattle.sweep_reader.proofs.bytes.repeat.Goals as goal

pub loop-k-init : goal.loop-k-init
loop-k-init c =
    (omega arith, omega arith, nothing _ _)

pub loop-k-preserved : goal.loop-k-preserved
loop-k-preserved c = (
  omega arith,
  omega arith,
  behind_as c.loop-k.invariant.2 c.byte-at.ensures (again c.loop-k.k c.args.byte),
)
