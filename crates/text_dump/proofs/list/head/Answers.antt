-- `text_dump::list::head`: the count, three flags and the end of the line.
-- Assumes nothing.
use Rattle.text.proofs.Rooms.{behind}
use Rattle.text_dump.proofs.list.head.Goals as goal

pub returns : goal.returns
returns c =
    behind
    (behind (behind (behind c.number-count.ensures c.flag-start.ensures) c.flag-change.ensures)
    c.flag-complete.ensures)
    c.line.ensures
