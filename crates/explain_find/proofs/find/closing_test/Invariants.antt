-- `explain_find::find::closing_test`: over the future sections, to the one that the packet ends in, or to the footer.
-- Assumes nothing.
use Prim.Native.Nat.{◌-◌}
use Rattle.explain_find.proofs.ClosingFound.{Come}
use Rattle.explain_find.proofs.find.closing_test.Given as goal

abbrev pub invariant-loop-i : goal.invariant-loop-i
invariant-loop-i l = Come l.packet l.from l.i

abbrev pub decreases-loop-i : goal.decreases-loop-i
decreases-loop-i l = l.size - l.i
