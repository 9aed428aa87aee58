-- `read_closing::closing::test_footer` is rule 9, test by test.
-- Assumes nothing.
use native.Mathlib.Omega.{arith}
use Rattle.read_closing.proofs.ClosingReads.{footer_short, other_sequence, other_checksum, footer_whole}
use Rattle.read_closing.proofs.closing.test_footer.Goals as goal

pub returns-then-size-i : goal.returns-then-size-i
returns-then-size-i c =
    rw c.at.ensures (footer_short _ _ _ (omega arith))

pub returns-then-sequence_count-sequence : goal.returns-then-sequence_count-sequence
returns-then-sequence_count-sequence c =
    let e = c.sequence_count.ensures in
    rw c.at-then-sequence_count-sequence.ensures (other_sequence _ _ _ (omega arith) (rw e at c.if-sequence_count-sequence.true))

pub returns-then-packet-i : goal.returns-then-packet-i
returns-then-packet-i c =
    let sequence = c.sequence_count.ensures in
    let same = rw sequence at c.if-sequence_count-sequence.false in
    rw c.at-then-packet-i.ensures (other_checksum _ _ _ (omega arith) same (rw c.checksum_byte.ensures at c.if-packet-i.true))

pub returns : goal.returns
returns c =
    let sequence = c.sequence_count.ensures in
    let same = rw sequence at c.if-sequence_count-sequence.false in
    let sum = rw c.checksum_byte.ensures at c.if-packet-i.false in
    footer_whole _ _ _ (omega arith) same sum
