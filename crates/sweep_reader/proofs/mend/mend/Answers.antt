-- `sweep_reader::mend::mend`: the byte that mends is cleared, the sum made, and its negative put there.
-- Assumes nothing.
use Rattle.std.proofs.Common.{ℕ, ◌-◌, length, set, refl, ap, arith, length-set}
use Rattle.sweep_reader.proofs.Mends.{mend_byte, mend_done, mend_short}
use Rattle.sweep_reader.proofs.mend.mend.Goals as goal

pub returns-then-size-back : goal.returns-then-size-back
returns-then-size-back c =
    mend_short _ _ c.if-size-back.true

pub returns : goal.returns
returns c =
    let a = c.args in
    let p = a.packet.now in
    let at = length p - c.mender.result in
    let r = c.wrapping_neg.result in
    mend_done a.behind at r p (omega arith) (ap (λ (n : ℕ). length p - n) c.mender.ensures.value)
    (mend_byte a.behind (length p) c.sum.result _ r (set p at 0)
    (length-set p at 0)
    c.sum.ensures refl c.wrapping_neg.ensures
    (omega arith))
