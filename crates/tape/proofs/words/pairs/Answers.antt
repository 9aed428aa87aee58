-- `words::pairs`: so many bytes were put, and those from the place on are left.
-- Assumes nothing.
use Rattle.std.proofs.Common.{arith}
use Rattle.tape.proofs.WordReads.{pairs_full, pairs_next, pairs_stopped}
use Rattle.tape.proofs.words.pairs.Goals as goal

pub returns-in_default : goal.returns-in_default
returns-in_default c =
    let stopped = pairs_stopped c.loop-k.invariant c.in_default.ensures in
    record { value = stopped.0; given_after = stopped.1 }

pub loop-k-preserved : goal.loop-k-preserved
loop-k-preserved c =
    pairs_next c.loop-k.invariant c.in-Some.found (omega arith) c.in-Some.ensures

pub returns : goal.returns
returns c =
    let full = pairs_full c.loop-k.invariant (omega arith) in record { value = full.0; given_after = full.1 }
