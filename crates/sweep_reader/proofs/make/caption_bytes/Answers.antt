-- `sweep_reader::make::caption_bytes`: after k turns the first k bytes are put.
-- Assumes nothing.
use Rattle.std.proofs.Common.{arith}
use Rattle.basis.proofs.Mades.{made_more, made_none}
use Rattle.sweep_reader.specs.Make.{caption_byte}
use Rattle.text.proofs.Rooms.{behind_as, nothing}
use Rattle.sweep_reader.proofs.make.caption_bytes.Goals as goal

pub loop-k-init : goal.loop-k-init
loop-k-init c =
    (omega arith, omega arith, rw (made_none _) (nothing _ _))

pub loop-k-preserved : goal.loop-k-preserved
loop-k-preserved c =
    let one = rw c.caption_byte.ensures at c.byte-at.ensures in
    (omega arith, omega arith, behind_as c.loop-k.invariant.2 one (made_more (caption_byte _) _))
