-- `explain::Why::of`: what the reader's tests give, and the test that these leave.
-- Assumes nothing.
use mathlib.Core.Path.{◌∙◌, sym}
use Rattle.explain.proofs.Explained.{accepted_told, refused_inside, refused_told}
use Rattle.explain.proofs.why.Why.of.Goals as goal

pub returns-in-Ok : goal.returns-in-Ok
returns-in-Ok c =
    rw c.done.ensures (accepted_told _ _ (sym c.parse.ensures ∙ c.in-Ok.is))

pub reason_for-requires : goal.reason_for-requires
reason_for-requires c =
    refused_inside _ _ (sym c.parse.ensures ∙ c.in-Err.is)

pub returns-in-Err : goal.returns-in-Err
returns-in-Err c =
    rw (c.reason_for.ensures, c.test_of-test.ensures, c.from-answer.ensures)
    (refused_told _ _ (sym c.parse.ensures ∙ c.in-Err.is))
