-- `read_captions::test_captions` is rule 6, test by test.
-- Assumes nothing.
use native.Mathlib.Omega.{arith}
use Rattle.read_captions.proofs.CaptionsReads.{captions_cut, captions_whole, no_e0, not_there, other_id, too_short}
use Rattle.read_captions.proofs.captions.test_captions.Goals as goal

pub returns-then-not-present : goal.returns-then-not-present
returns-then-not-present c =
    not_there _ _ _ c.if-not-present.true

pub returns-then-size-i : goal.returns-then-size-i
returns-then-size-i c =
    rw c.at.ensures (too_short _ _ _ c.if-not-present.false (omega arith))

pub returns-then-packet-i-ne-CC_DATA_ID : goal.returns-then-packet-i-ne-CC_DATA_ID
returns-then-packet-i-ne-CC_DATA_ID c =
    rw c.at-then-packet-i-ne-CC_DATA_ID.ensures
    (other_id _ _ _ c.if-not-present.false (omega arith) (λ h. omega arith))

pub returns-then-header-ne7 : goal.returns-then-header-ne7
returns-then-header-ne7 c =
    let there = c.if-not-present.false in
    rw c.at-then-header-ne7.ensures (no_e0 _ _ _ there (omega arith) (omega arith) (λ h. omega arith))

pub returns-then-size-i-2 : goal.returns-then-size-i-2
returns-then-size-i-2 c =
    let there = c.if-not-present.false in
    rw c.at-then-size-i-2.ensures
    (captions_cut _ _ _ there (omega arith) (omega arith) (omega arith) (omega arith))

pub returns : goal.returns
returns c =
    let there = c.if-not-present.false in
    captions_whole _ _ _ there (omega arith) (omega arith) (omega arith) (omega arith)
