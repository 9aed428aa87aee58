-- `read_closing::test_closing`: over the future sections of rule 8, and then rule 9.
-- Assumes nothing.
use mathlib.Core.Path.{◌∙◌}
use native.Mathlib.Omega.{arith}
use Rattle.read_closing.proofs.ClosingReads.{begins, footer_reached, future_cut, goes_on, id_high, id_low, nothing_behind, nothing_there}
use Rattle.read_closing.proofs.closing.test_closing.Goals as goal

pub returns-then-size-i : goal.returns-then-size-i
returns-then-size-i c =
    rw c.at.ensures (nothing_there _ _ _ (omega arith))

pub loop-i-init : goal.loop-i-init
loop-i-init c =
    begins _ _ _ (omega arith)

pub returns-then-packet-i-lt117 : goal.returns-then-packet-i-lt117
returns-then-packet-i-lt117 c =
    rw c.at-then-packet-i-lt117.ensures (id_low _ _ _ _ c.loop-i.invariant c.loop-i-test.true (omega arith))

pub returns-then-packet-i-gt239 : goal.returns-then-packet-i-gt239
returns-then-packet-i-gt239 c =
    rw c.at-then-packet-i-gt239.ensures (id_high _ _ _ _ c.loop-i.invariant c.loop-i-test.true (omega arith) (omega arith))

pub returns-then-size-i-2 : goal.returns-then-size-i-2
returns-then-size-i-2 c =
    rw c.at-then-size-i-2.ensures
    (future_cut _ _ _ _ c.loop-i.invariant c.loop-i-test.true (omega arith) (omega arith) (omega arith))

pub returns-then-size-next : goal.returns-then-size-next
returns-then-size-next c =
    let inv = c.loop-i.invariant in
    rw c.at-then-size-next.ensures
    (nothing_behind _ _ _ _ inv c.loop-i-test.true (omega arith) (omega arith) (omega arith) (omega arith))

pub loop-i-preserved : goal.loop-i-preserved
loop-i-preserved c =
    let inv = c.loop-i.invariant in
    let future = c.loop-i-test.true in
    goes_on _ _ _ _ inv future (omega arith) (omega arith) (omega arith) (omega arith)

pub returns : goal.returns
returns c =
    c.test_footer.ensures ∙ footer_reached _ _ _ _ c.loop-i.invariant (omega arith)
