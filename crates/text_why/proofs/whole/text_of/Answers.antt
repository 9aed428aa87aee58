-- `text_why::whole::text_of`: an input that is too long, or a packet.
-- Assumes nothing.
use borrow.Author.Tests.{le-leb, lt-leb}
use Rattle.text_why.specs.Explained.{why_text}
use Rattle.text_why.proofs.whole.text_of.Goals as goal

pub returns-then-input-gt-MOST_INPUT : goal.returns-then-input-gt-MOST_INPUT
unfolding why_text
returns-then-input-gt-MOST_INPUT c =
    simp (lt-leb _ _ c.if-input-gt-MOST_INPUT.true) c.line.ensures

pub returns : goal.returns
unfolding why_text
returns c =
    simp (le-leb _ _ c.if-input-gt-MOST_INPUT.false) (rw c.of-why.ensures at c.lines.ensures)
