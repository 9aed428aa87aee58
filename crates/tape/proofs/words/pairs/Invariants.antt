-- `words::pairs`: so many bytes were put, and those from the place on are left.
-- Assumes nothing.
use Rattle.tape.proofs.WordReads.{PairsRead}
use Rattle.tape.proofs.words.pairs.Given as goal

abbrev pub invariant-loop-k : goal.invariant-loop-k
invariant-loop-k l = PairsRead l.line l.from l.initial.given l.given l.at l.k
