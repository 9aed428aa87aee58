-- `service_entry::ServiceEntry::put_all`: after k turns of the first loop what is left to see is the entries from k on, after
-- k of the second the first k entries stand from the place on.
-- Assumes nothing.
use mathlib.Core.Bool.{true}
use mathlib.Core.Path.{◌≡◌}
use Prim.Native.Nat.{◌≤◌}
use lib.ListN.{length}
use Rattle.service_entry.specs.Code.{all_writable}
use Rattle.service_entry.specs.EntriesWriting.{places_from}
use Rattle.service_entry.proofs.EntriesWrites.{ahead, entries_put}
use Rattle.service_entry.proofs.entry.ServiceEntry.put_all.Given as goal

abbrev pub invariant-loop-entry : goal.invariant-loop-entry
invariant-loop-entry l = all_writable (places_from l.fn.services 0 l.count) ≡ ahead l.entry-index l.count l.fn.services

abbrev pub invariant-loop-k : goal.invariant-loop-k
invariant-loop-k l = (l.k ≤ l.count) × (length l.out ≡ length l.initial.out) × (l.out ≡ entries_put l.k l.at l.services l.initial.out) × (ahead l.k l.count l.services ≡ true)
