-- Rules 8 and 9: future sections from i on, and the footer behind them.
use Rattle.std.specs.Prelude.{cond, ◌&&◌, List, [], ◌∷◌, ◌++◌, ℕ, zero, suc, ◌+◌, ◌-◌, eqb, leb, length, take}
use Rattle.basis.specs.declared.refusal.Refusal.TheVariants.{WrongMagic, SequenceCountMismatch, ChecksumFailed}
use Rattle.basis.specs.Bytes.{byte}
use Rattle.basis.specs.Check.{Check, check_at, size_check}
use Rattle.basis.specs.declared.test.SizeTest.TheVariants.{ClosingHead, FutureWhole, FutureNext, FooterWhole}
use Rattle.basis.specs.declared.test.PairTest.TheVariants.{FooterSequence}
use Rattle.basis.specs.declared.test.ByteTest.TheVariants.{FutureId, Checksum}
use Rattle.basis.specs.declared.test.Test.TheVariants.{Pair, Byte}
use Rattle.values.specs.Checksum.{total, negative}
use Rattle.values.specs.Layout.{footer_id, footer_size, section_head_size}
use Rattle.values.specs.Sequence.{sequence_of}

-- L, the byte behind a future section's id
abbrev pub future_length : List ℕ → ℕ → ℕ
future_length p i = byte p (i + 1)

-- 8.2: the id lies in 75 to EF; 8.3: n is at least i+1+L; i moves on by 2+L, and 8.4: n is at least the new i+2
abbrev pub future_checks_at : List ℕ → ℕ → List Check
future_checks_at p i =
    check_at i (Byte FutureId) (leb 0x75 (byte p i) && leb (byte p i) 0xEF) WrongMagic
    ∷ size_check FutureWhole p (i + 1 + future_length p i)
    ∷ size_check FutureNext p (i + section_head_size + future_length p i + section_head_size)
    ∷ []

-- while byte i is not 74, in at most so many turns; the packet's size is enough, since i moves on by two at least
abbrev pub future_checks : ℕ → List ℕ → ℕ → List Check
future_checks zero p i = []
future_checks (suc turns) p i =
    cond (eqb (byte p i) footer_id) [] (future_checks_at p i ++ future_checks turns p (i + section_head_size + future_length p i))

-- rule 8. 8.1: n is at least i+2; 8.2 to 8.4: the future sections
abbrev pub future_sections_checks : List ℕ → ℕ → List Check
future_sections_checks p i = size_check ClosingHead p (i + section_head_size) ∷ future_checks (length p) p i

-- where the footer stands
abbrev pub footer_from : ℕ → List ℕ → ℕ → ℕ
footer_from zero p i = i
footer_from (suc turns) p i = cond (eqb (byte p i) footer_id) i (footer_from turns p (i + section_head_size + future_length p i))

-- rule 9: the negative of the sum over the packet without its last byte
abbrev pub checksum_of : List ℕ → ℕ
checksum_of p = negative (total (take (length p - 1) p))

-- 9.1: n is at least i+4; 9.2: the sequence again; 9.3: the checksum
abbrev pub footer_checks : List ℕ → ℕ → ℕ → List Check
footer_checks p sequence i =
    size_check FooterWhole p (i + footer_size)
    ∷ check_at (i + 1) (Pair FooterSequence) (eqb (sequence_of (byte p (i + 1)) (byte p (i + 2))) sequence) SequenceCountMismatch
    ∷ check_at (i + 3) (Byte Checksum) (eqb (byte p (i + 3)) (checksum_of p)) ChecksumFailed
    ∷ []

-- 8.1 to 8.4, and behind them 9.1 to 9.3
unfoldable pub closing_checks : List ℕ → ℕ → ℕ → List Check
closing_checks p sequence i = future_sections_checks p i ++ footer_checks p sequence (footer_from (length p) p i)
