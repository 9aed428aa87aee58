-- `read_closing::test_closing`: over the future sections of rule 8, and then rule 9.
-- Assumes nothing.
use Prim.Native.Nat.{◌-◌}
use Rattle.read_closing.proofs.ClosingReads.{Reached}
use Rattle.read_closing.proofs.closing.test_closing.Given as goal

abbrev pub invariant-loop-i : goal.invariant-loop-i
invariant-loop-i l = Reached l.packet l.sequence l.at l.i

abbrev pub decreases-loop-i : goal.decreases-loop-i
decreases-loop-i l = l.size - l.i
