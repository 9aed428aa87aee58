-- `text_dump::lines::four`: the four values of a time code.
-- Assumes nothing.
use Rattle.text.proofs.Rooms.{behind}
use Rattle.text_dump.proofs.lines.four.Goals as goal

pub returns : goal.returns
returns c =
    behind (behind (behind c.two_digits-hours.ensures c.two_digits-minutes.ensures) c.two_digits-seconds.ensures)
    c.two_digits.ensures
