-- `sweep_reader::make::entries`: after k turns the first k entries are put.
-- Assumes nothing.
use Rattle.std.proofs.Common.{◌≡◌, ◌≤◌, length}
use Rattle.sweep_reader.specs.Make.{entries_made}
use Rattle.text.specs.Room.{PutInRoom}
use Rattle.sweep_reader.proofs.make.entries.Given as goal

abbrev pub invariant-loop-k : goal.invariant-loop-k
invariant-loop-k l = (l.k ≤ l.count) × (length l.out ≡ length l.initial.out) × PutInRoom l.from (entries_made l.number l.k) l.initial.out l.at l.out
