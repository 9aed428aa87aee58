-- `explain_find::find::closing_test`: over the future sections, to the one that the packet ends in, or to the footer.
-- Assumes nothing.
use native.Mathlib.Omega.{arith}
use Rattle.explain_find.proofs.ClosingFound.{ends_behind, ends_in_future, sets_out}
use Rattle.explain_find.proofs.find.closing_test.Goals as goal

pub loop-i-init : goal.loop-i-init
loop-i-init c =
    sets_out _ _ (omega arith)

pub returns-then-size-i : goal.returns-then-size-i
returns-then-size-i c =
    ends_in_future _ _ _ c.loop-i.invariant c.loop-i-test.true (omega arith)

pub returns-then-size-next : goal.returns-then-size-next
returns-then-size-next c =
    ends_behind _ _ _ c.loop-i.invariant c.loop-i-test.true (omega arith) (omega arith)
