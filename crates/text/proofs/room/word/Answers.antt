-- `text::word`: after k turns the first k bytes are put.
-- Assumes nothing.
use Rattle.text.proofs.Rooms.{behind_as, nothing, one_more}
use native.Mathlib.Omega.{arith}
use Rattle.text.proofs.room.word.Goals as goal

pub loop-x-init : goal.loop-x-init
loop-x-init c =
    nothing _ _

pub loop-x-preserved : goal.loop-x-preserved
loop-x-preserved c =
    behind_as c.loop-x.invariant c.byte-at.ensures (one_more c.args.text.now c.loop-x.x-index (omega arith))
