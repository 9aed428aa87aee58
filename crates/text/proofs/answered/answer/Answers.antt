-- `text::answer`: the number, beside 1 its two values, and the end of the line.
-- Assumes nothing.
use mathlib.Core.Path.{◌≡◌}
use native.Mathlib.Omega.{arith}
use Rattle.text.proofs.Rooms.{behind, nothing}
use borrow.Author.Tests.{eq-eqb, ne_eqb}
use Rattle.text.specs.Answers.{answer_line}
use Rattle.text.proofs.answered.answer.Goals as goal

pub returns-then-shown-eq1 : goal.returns-then-shown-eq1
unfolding answer_line
returns-then-shown-eq1 c =
    simp (eq-eqb _ _ c.if-shown-eq1.true)
    (behind (behind c.number-named.ensures (behind c.number-first.ensures c.number-second.ensures)) c.line.ensures)

pub returns : goal.returns
unfolding answer_line
returns c =
    let other : c.args.shown.number ≡ 1 → ⊥ = omega arith in
    simp (ne_eqb _ _ other) (behind (behind c.number-named.ensures (nothing _ _)) c.line-2.ensures)
