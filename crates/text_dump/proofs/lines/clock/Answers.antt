-- `text_dump::lines::clock`: the four values, two flags and the end of the line.
-- Assumes nothing.
use Rattle.text.proofs.Rooms.{behind}
use Rattle.text_dump.proofs.lines.clock.Goals as goal

pub returns : goal.returns
returns c =
    behind (behind (behind c.four-told.ensures c.flag-field.ensures) c.flag-drop.ensures) c.line.ensures
