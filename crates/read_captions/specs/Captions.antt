-- Rule 6: the captions, 2+3c bytes from i on, and what is handed out of them.
use Rattle.std.specs.Prelude.{List, [], ◌∷◌, ℕ, ◌+◌, ◌*◌, eqb}
use Rattle.basis.specs.declared.refusal.Refusal.TheVariants.{WrongMagic, InvalidFixedBits}
use Rattle.basis.specs.Bytes.{byte, part}
use Rattle.basis.specs.Check.{Check, check_at, size_check}
use Rattle.basis.specs.declared.test.SizeTest.TheVariants.{CaptionsHead, CaptionsWhole}
use Rattle.basis.specs.declared.test.ByteTest.TheVariants.{CaptionsId, CaptionsFixed}
use Rattle.basis.specs.declared.test.Test.TheVariants.{Byte}
use Rattle.basis.specs.Mask.{under, all_set, xe0, x1f}
use Rattle.values.specs.Layout.{captions_id, section_head_size, triplet_size}

-- the count c is the low five bits of byte i+1
abbrev pub caption_count : List ℕ → ℕ → ℕ
caption_count p i = under x1f (byte p (i + 1))

abbrev pub captions_size : List ℕ → ℕ → ℕ
captions_size p i = section_head_size + triplet_size * caption_count p i

-- 6.1: n is at least i+2; 6.2: byte i is 72; 6.3: byte i+1 has all of E0; 6.4: n is at least i+2+3c
abbrev pub captions_checks : List ℕ → ℕ → List Check
captions_checks p i =
    size_check CaptionsHead p (i + section_head_size)
    ∷ check_at i (Byte CaptionsId) (eqb (byte p i) captions_id) WrongMagic
    ∷ check_at (i + 1) (Byte CaptionsFixed) (all_set xe0 (byte p (i + 1))) InvalidFixedBits
    ∷ size_check CaptionsWhole p (i + captions_size p i)
    ∷ []

-- C0 + c, FF and the 3c bytes
abbrev pub handed_out : List ℕ → ℕ → List ℕ
handed_out p i = (0xC0 + caption_count p i) ∷ 0xFF ∷ part (i + section_head_size) (triplet_size * caption_count p i) p
