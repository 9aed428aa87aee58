-- `service_entries::entries::places`: after k turns the first k places have what the first k entries hold.
-- Assumes nothing.
use mathlib.Core.Path.{◌≡◌}
use Prim.Native.Nat.{◌≤◌}
use lib.ListN.{length}
use Rattle.service_entries.proofs.SectionEntries.{first_read}
use Rattle.service_entries.proofs.entries.places.Given as goal

abbrev pub invariant-loop-k : goal.invariant-loop-k
invariant-loop-k l = (l.k ≤ l.count) × (length l.services ≡ 15) × (l.services ≡ first_read l.data 2 l.k)
