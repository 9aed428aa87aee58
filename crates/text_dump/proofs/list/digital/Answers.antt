-- `text_dump::list::digital`: the number, the language, two flags and the end of the line.
-- Assumes nothing.
use Rattle.text.proofs.Rooms.{behind}
use Rattle.text_dump.proofs.list.digital.Goals as goal

pub returns : goal.returns
returns c =
    behind
    (behind (behind (behind c.number-numbered.ensures c.language_bytes-spoken.ensures) c.flag-easy.ensures)
    c.flag-wide.ensures)
    c.line.ensures
