-- `text_dump::lines::active`: a flag and the end of the line.
-- Assumes nothing.
use Rattle.text.proofs.Rooms.{behind}
use Rattle.text_dump.specs.Lines.{active_line}
use Rattle.text_dump.proofs.lines.active.Goals as goal

pub returns : goal.returns
unfolding active_line
returns c =
    behind c.flag-on.ensures c.line.ensures
