-- `text_dump::lines::rate`: three numbers and the end of the line.
-- Assumes nothing.
use Rattle.text.proofs.Rooms.{behind}
use Rattle.text_dump.specs.Lines.{rate_line}
use Rattle.text_dump.proofs.lines.rate.Goals as goal

pub returns : goal.returns
unfolding rate_line
returns c =
    behind (behind (behind c.number-id.ensures c.number-numer.ensures) c.number-denom.ensures) c.line.ensures
