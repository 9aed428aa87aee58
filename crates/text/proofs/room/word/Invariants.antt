-- `text::word`: after k turns the first k bytes are put.
-- Assumes nothing.
use lib.ListN.{take}
use Rattle.text.specs.Room.{PutInRoom}
use Rattle.text.proofs.room.word.Given as goal

abbrev pub invariant-loop-x : goal.invariant-loop-x
invariant-loop-x l = PutInRoom l.from (take l.x-index l.text) l.initial.out l.at l.out
