-- `text_values::bytes::two`: two bytes with a space between them.
-- Assumes nothing.
use Rattle.text.proofs.Rooms.{behind}
use Rattle.text_values.proofs.bytes.two.Goals as goal

pub returns : goal.returns
returns c =
    behind c.hex-between.ensures c.hex.ensures
