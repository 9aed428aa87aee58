-- `text_dump::list::language_bytes`: three bytes.
-- Assumes nothing.
use Rattle.text.proofs.Rooms.{behind}
use Rattle.text_dump.proofs.list.language_bytes.Goals as goal

pub returns : goal.returns
returns c =
    behind (behind c.hex-first.ensures c.hex-second.ensures) c.hex.ensures
