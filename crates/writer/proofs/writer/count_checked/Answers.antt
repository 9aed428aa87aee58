-- `writer::writer::count_checked`: 10 where a list that is there counts over 15.
-- Assumes nothing.
use mathlib.Core.Path.{◌∙◌}
use native.Mathlib.Omega.{arith}
use borrow.Author.Tests.{not-true, not-false}
use Rattle.writer.proofs.Setters.{count_fine, no_list}
use Rattle.writer.proofs.writer.count_checked.Goals as goal

pub returns-then-not-service_info : goal.returns-then-not-service_info
returns-then-not-service_info c =
    c.done.ensures ∙ no_list _ (not-true _ c.if-not-service_info.true)

pub returns : goal.returns
returns c =
    c.done-2.ensures ∙ count_fine _ (not-false _ c.if-not-service_info.false) (omega arith)
