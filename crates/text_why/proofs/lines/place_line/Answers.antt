-- `text_why::lines::place_line`: a number and the end of the line.
-- Assumes nothing.
use Rattle.text.proofs.Rooms.{behind}
use Rattle.text_why.proofs.lines.place_line.Goals as goal

pub returns : goal.returns
returns c =
    behind c.number-named.ensures c.line.ensures
