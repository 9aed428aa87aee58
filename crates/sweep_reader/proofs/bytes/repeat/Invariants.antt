-- `sweep_reader::bytes::repeat`: after k turns the byte is put k times.
-- Assumes nothing.
use Rattle.std.proofs.Common.{◌≡◌, ◌≤◌, length, replicate}
use Rattle.text.specs.Room.{PutInRoom}
use Rattle.sweep_reader.proofs.bytes.repeat.Given as goal

abbrev pub invariant-loop-k : goal.invariant-loop-k
invariant-loop-k l = (l.k ≤ l.count) × (length l.out ≡ length l.initial.out) × PutInRoom l.from (replicate l.k l.byte) l.initial.out l.at l.out
