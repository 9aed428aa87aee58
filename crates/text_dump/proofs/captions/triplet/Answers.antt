-- `text_dump::captions::triplet`: three bytes and the end of the line.
-- Assumes nothing.
use Rattle.text.proofs.Rooms.{behind}
use Rattle.text_dump.proofs.captions.triplet.Goals as goal

pub returns : goal.returns
returns c =
    behind (behind (behind c.hex-one.ensures c.hex-two.ensures) c.hex-three.ensures) c.line.ensures
