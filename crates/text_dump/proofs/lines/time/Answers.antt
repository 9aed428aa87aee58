-- `text_dump::lines::time`: the time code, or that there is none.
-- Assumes nothing.
use mathlib.Core.Bool.{false, true}
use mathlib.Core.Path.{◌≡◌}
use borrow.Author.Tests.{not-true, not-false}
use Rattle.text_dump.specs.Lines.{time_line}
use Rattle.text_dump.proofs.lines.time.Goals as goal

pub returns-then-not-shown : goal.returns-then-not-shown
unfolding time_line
returns-then-not-shown c =
    let none : c.args.shown.present ≡ false = not-true _ c.if-not-shown.true in
    rw none c.line.ensures

pub returns : goal.returns
unfolding time_line
returns c =
    let there : c.args.shown.present ≡ true = not-false _ c.if-not-shown.false in
    rw there c.clock.ensures
