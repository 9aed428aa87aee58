-- `text_dump::captions::captions`: their count and a line for each, or that there are none.
-- Assumes nothing.
use Rattle.text.proofs.Rooms.{behind}
use borrow.Author.Tests.{eq-eqb, ne_eqb}
use Rattle.text_dump.specs.Lines.{caption_lines}
use Rattle.text_dump.proofs.captions.captions.Goals as goal

pub returns-then-handed_out-eq0 : goal.returns-then-handed_out-eq0
unfolding caption_lines
returns-then-handed_out-eq0 c =
    simp (eq-eqb _ _ c.if-handed_out-eq0.true) c.line.ensures

pub returns : goal.returns
unfolding caption_lines
returns c =
    simp (ne_eqb _ _ c.if-handed_out-eq0.false) (behind (behind c.number-counted.ensures c.line-ended.ensures) c.triplets.ensures)
