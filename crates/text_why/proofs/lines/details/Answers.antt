-- `text_why::lines::details`: line by line.
-- Assumes nothing.
use Rattle.text.proofs.Rooms.{behind, nothing}
use Rattle.text_why.proofs.lines.details.Goals as goal

pub returns : goal.returns
returns c =
    behind c.rule_line-ruled.ensures
    (behind c.answer-answered.ensures
    (behind c.place_line-placed.ensures
    (behind c.found_line-found.ensures (behind c.allowed_line.ensures (nothing _ _)))))
