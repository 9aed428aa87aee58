-- `text_values::runs::put_run`: a value alone, or both ends of a range.
-- Assumes nothing.
use mathlib.Core.List.{append_assoc}
use borrow.Author.Tests.{eq-eqb, ne_eqb}
use Rattle.text.proofs.Rooms.{behind_as}
use Rattle.text_values.specs.Runs.{run_text}
use Rattle.text_values.proofs.runs.put_run.Goals as goal

pub returns-then-run : goal.returns-then-run
unfolding run_text
returns-then-run c =
    simp (eq-eqb _ _ c.if-run.true) c.hex-first.ensures

pub returns : goal.returns
unfolding run_text
returns c =
    simp (ne_eqb _ _ c.if-run.false)
    (behind_as c.hex-first.ensures c.hex.ensures (append_assoc c.args.between.now _ _))
