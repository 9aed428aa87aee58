-- `basis::buffer::answered`: 11 where there is too little room.
-- Assumes nothing.
use mathlib.Core.Path.{◌∙◌}
use borrow.Author.Tests.{le-leb, lt-leb}
use Rattle.basis.proofs.buffer.answered.Goals as goal

pub returns-then-given-needed : goal.returns-then-given-needed
returns-then-given-needed c =
    c.from.ensures ∙ simp (lt-leb _ _ c.if-given-needed.true)

pub returns : goal.returns
returns c =
    c.done.ensures ∙ simp (le-leb _ _ c.if-given-needed.false)
