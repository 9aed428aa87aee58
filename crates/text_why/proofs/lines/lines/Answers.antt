-- `text_why::lines::lines`: by the reason.
-- Assumes nothing.
use Rattle.text.proofs.Rooms.{behind}
use Rattle.text_why.proofs.Explains.{accepted_line, byte_lines, pair_lines, size_lines}
use Rattle.text_why.proofs.lines.lines.Goals as goal

pub returns-in-Accepted : goal.returns-in-Accepted
returns-in-Accepted c =
    rw (accepted_line c.args.packet.now c.args.why c.in-Accepted.is) c.line.ensures

pub returns-in-OfSize : goal.returns-in-OfSize
returns-in-OfSize c =
    rw (size_lines c.args.packet.now c.args.why _ c.in-OfSize.is) (behind c.refused-said.ensures c.details.ensures)

pub returns-in-OfPair : goal.returns-in-OfPair
returns-in-OfPair c =
    rw (pair_lines c.args.packet.now c.args.why _ c.in-OfPair.is) (behind c.refused-said-in-OfPair.ensures c.details-in-OfPair.ensures)

pub returns-in-OfByte : goal.returns-in-OfByte
returns-in-OfByte c =
    rw (byte_lines c.args.packet.now c.args.why _ c.in-OfByte.is) (behind c.refused-said-in-OfByte.ensures c.details-in-OfByte.ensures)
