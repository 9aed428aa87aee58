-- `text::byte`: one byte, where there is room for it.
-- Assumes nothing.
use Rattle.text.proofs.Rooms.{one, no_room}
use Rattle.text.proofs.room.byte.Goals as goal

pub returns-then-at-out : goal.returns-then-at-out
returns-then-at-out c =
    one _ _ _ c.if-at-out.true

pub returns : goal.returns
returns c =
    no_room _ _ _ c.if-at-out.false
