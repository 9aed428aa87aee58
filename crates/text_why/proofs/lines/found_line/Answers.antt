-- `text_why::lines::found_line`: the name, what stands behind it, and the end of the line.
-- Assumes nothing.
use Rattle.text.proofs.Rooms.{behind}
use Rattle.text_why.proofs.lines.found_line.Goals as goal

pub returns : goal.returns
returns c =
    behind (behind c.word-named.ensures c.found-told.ensures) c.line.ensures
