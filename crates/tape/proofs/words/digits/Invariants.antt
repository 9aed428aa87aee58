-- `words::digits`: the digits before the place were read.
-- Assumes nothing.
use Rattle.tape.proofs.WordReads.{DigitsRead}
use Rattle.tape.proofs.words.digits.Given as goal

abbrev pub invariant-loop-k : goal.invariant-loop-k
invariant-loop-k l = DigitsRead l.bytes l.value l.k
