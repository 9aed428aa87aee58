-- `service_entries::section_tests::test_entries`: after k turns what is left to test are the entries from k on.
-- Assumes nothing.
use mathlib.Core.Path.{◌≡◌}
use Prim.Native.Nat.{◌≤◌}
use Rattle.service_entries.proofs.SectionEntries.{left}
use Rattle.service_entries.proofs.section_tests.test_entries.Given as goal

abbrev pub invariant-loop-k : goal.invariant-loop-k
invariant-loop-k l = (l.k ≤ l.count) × (left l.data 0 l.count ≡ left l.data l.k l.count)
