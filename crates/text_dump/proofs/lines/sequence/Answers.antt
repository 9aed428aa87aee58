-- `text_dump::lines::sequence`: a number and the end of the line.
-- Assumes nothing.
use Rattle.text.proofs.Rooms.{behind}
use Rattle.text_dump.specs.Lines.{sequence_line}
use Rattle.text_dump.proofs.lines.sequence.Goals as goal

pub returns : goal.returns
unfolding sequence_line
returns c =
    behind c.number-count.ensures c.line.ensures
