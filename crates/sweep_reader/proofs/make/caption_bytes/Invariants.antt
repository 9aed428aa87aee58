-- `sweep_reader::make::caption_bytes`: after k turns the first k bytes are put.
-- Assumes nothing.
use Rattle.std.proofs.Common.{◌≡◌, ◌≤◌, length}
use Rattle.basis.specs.Made.{made}
use Rattle.sweep_reader.specs.Make.{caption_byte}
use Rattle.text.specs.Room.{PutInRoom}
use Rattle.sweep_reader.proofs.make.caption_bytes.Given as goal

abbrev pub invariant-loop-k : goal.invariant-loop-k
invariant-loop-k l = (l.k ≤ l.count) × (length l.out ≡ length l.initial.out) × PutInRoom l.from (made (caption_byte l.number) l.k) l.initial.out l.at l.out
