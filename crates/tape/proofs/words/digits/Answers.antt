-- `words::digits`: the digits before the place were read.
-- Assumes nothing.
use Rattle.std.proofs.Common.{arith, sym}
use Rattle.tape.proofs.WordReads.{digits_next}
use Rattle.tape.proofs.words.digits.Goals as goal

pub loop-k-preserved : goal.loop-k-preserved
loop-k-preserved c =
    digits_next c.loop-k.invariant _ c.loop-k-test.true (sym c.if-not-is_ascii_digit.ensures.value)
    (omega (arith, c.in_ok-value.ensures, c.in_ok-checked_mul.ensures, c.from.ensures))
