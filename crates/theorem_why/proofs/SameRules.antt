-- Two packets of one size whose bytes are the same up to the closing, save byte 4: they have the same checks of rules 2 to 6,
-- and of rule 7 but for 7.4.
-- Assumes nothing.
use mathlib.Core.Bool.{Bool, true, false}
use mathlib.Core.List.{List, ◌∷◌, ◌++◌}
use mathlib.Core.Path.{◌≡◌, ◌∙◌, refl, ap, ap₂, subst}
use Prim.Native.Nat.{ℕ, zero, suc, ◌+◌, ◌≤◌}
use native.Mathlib.Omega.{arith}
use borrow.Author.Tests.{leb-false, leb-true}
use lib.Dec.{eqb, leb}
use lib.ListN.{length}
use Rattle.basis.specs.declared.refusal.Refusal.TheVariants.{WrongMagic}
use Rattle.basis.specs.Bytes.{byte, part}
use Rattle.basis.specs.Check.{Check, check_at, moved, size_check, size_when, when}
use Rattle.basis.specs.Mask.{under, x0f}
use Rattle.basis.specs.declared.test.ByteTest.TheVariants.{ServicesId}
use Rattle.basis.specs.declared.test.SizeTest.TheVariants.{ServicesHead, ServicesWhole}
use Rattle.basis.specs.declared.test.Test.TheVariants.{Byte}
use Rattle.values.specs.Layout.{section_head_size, section_length, services_id, time_code_size}
use Rattle.service_entries.specs.Entries.{section_checks}
use Rattle.read_header.specs.Header.{flags_in, packet_frame_checks, rate_checks}
use Rattle.read_time_code.specs.TimeCode.{time_code_checks}
use Rattle.read_captions.specs.Captions.{captions_checks, captions_size}
use Rattle.read_services.specs.Services.{services_checks, services_part, services_size}
use Rattle.read_packet.specs.Packet.{captions_at, captions_length, closing_at, services_at, time_code_at}
use Rattle.theorem_altered.proofs.Outside.{Same, captions_same, captions_size_lem, time_same}
use Rattle.theorem_altered.proofs.Spans.{parts_same}
use Rattle.values.specs.declared.flags.Flags.{Flags}
use Rattle.theorem_why.specs.Rules.{rule_checks}

-- what holds of all numbers up to one, and of the next, holds up to that
pub one_more : (holds : ℕ → Type 0) (n : ℕ) → ((r : ℕ) → r ≤ n → holds r) → holds (suc n) → (r : ℕ) → r ≤ suc n → holds r
one_more holds n before next r most = by (leb r n) refl
  where
    by : (low : Bool) → leb r n ≡ low → holds r
    by true e = before r (leb-true r n e)
    by false e =
        let last : suc n ≡ r = omega (arith, most, leb-false r n e) in
        subst holds last next

-- rule 7 in front of 7.4
abbrev pub services_front : List ℕ → ℕ → List Check
services_front p i =
    size_check ServicesHead p (i + section_head_size)
    ∷ check_at i (Byte ServicesId) (eqb (byte p i) services_id) WrongMagic
    ∷ size_check ServicesWhole p (i + services_size p i)
    ∷ moved i (section_checks (services_part p i))

head_most : (present : Bool) (size : ℕ) → 2 ≤ size → size_when present 2 ≤ size_when present size
head_most true size h = h
head_most false size h = omega arith

module _ (p q : List ℕ) (size : length q ≡ length p) where
  -- the section and its checks
  module _ (i : ℕ) (same : Same p q i (i + services_size p i)) where
    count_same : byte q (i + 1) ≡ byte p (i + 1)
    count_same = same (i + 1) (omega arith) (omega arith)

    pub own_same : services_part q i ≡ services_part p i
    own_same =
        ap (λ (b : ℕ). part i (section_length (under x0f b)) q) count_same ∙ parts_same p q size i (services_size p i) same

    pub front_same : services_front q i ≡ services_front p i
    front_same =
        ap₂ ◌∷◌ (rw size)
        (ap₂ ◌∷◌ (rw (same i (omega arith) (omega arith)))
        (ap₂ ◌∷◌ (rw (count_same, size)) (ap (λ (d : List ℕ). moved i (section_checks d)) own_same)))

    pub services_same : (f : Flags) → services_checks q f i ≡ services_checks p f i
    services_same f = ap₂ ◌++◌ front_same (rw own_same)

  -- the packet
  module _ (first : Same p q 0 4) (rest : Same p q 5 (closing_at p))
      (timed : (flags_in q).time_code ≡ (flags_in p).time_code)
      (captioned : (flags_in q).cc_data ≡ (flags_in p).cc_data)
      (serviced : (flags_in q).svc_info ≡ (flags_in p).svc_info) where
    -- where the parts stand
    captions_bytes : Same p q (captions_at p) (captions_at p + size_when (flags_in p).cc_data 2)
    captions_bytes i low high =
        let most : size_when (flags_in p).cc_data 2 ≤ captions_length p =
        head_most (flags_in p).cc_data (captions_size p (captions_at p)) (omega arith) in
        rest i (omega (arith, low)) (omega (arith, high, most))

    pub captions_at_lem : captions_at q ≡ captions_at p
    captions_at_lem = ap (λ (b : Bool). time_code_at + size_when b time_code_size) timed

    captions_length_lem : captions_length q ≡ captions_length p
    captions_length_lem =
        ap₂ (λ (b : Bool) (i : ℕ). size_when b (captions_size q i)) captioned captions_at_lem
        ∙ captions_size_lem p q size (captions_at p) (flags_in p).cc_data captions_bytes

    pub services_at_lem : services_at q ≡ services_at p
    services_at_lem = ap₂ ◌+◌ captions_at_lem captions_length_lem

    -- the section, where there is one
    pub own_bytes : (flags_in p).svc_info ≡ true → Same p q (services_at p) (services_at p + services_size p (services_at p))
    own_bytes on i low high =
        let all : size_when (flags_in p).svc_info (services_size p (services_at p)) ≡ services_size p (services_at p) =
        ap (λ (b : Bool). size_when b (services_size p (services_at p))) on in
        rest i (omega (arith, low)) (omega (arith, high, all))

    services_size_lem : (present : Bool) → (flags_in p).svc_info ≡ present
        → size_when present (services_size q (services_at p)) ≡ size_when present (services_size p (services_at p))
    services_size_lem true on =
        ap (λ (b : ℕ). section_length (under x0f b)) (count_same (services_at p) (own_bytes on))
    services_size_lem false off = refl

    pub closing_at_lem : closing_at q ≡ closing_at p
    closing_at_lem =
        ap₂ ◌+◌ services_at_lem
        (ap₂ (λ (b : Bool) (i : ℕ). size_when b (services_size q i)) serviced services_at_lem
        ∙ services_size_lem (flags_in p).svc_info refl)

    -- rules 2 to 6
    abbrev SameRule : ℕ → Type 0
    SameRule r = rule_checks q r ≡ rule_checks p r

    none_same : (r : ℕ) → r ≤ 1 → SameRule r
    none_same zero most = refl
    none_same (suc zero) most = refl
    none_same (suc (suc r)) most = absurd (over most)
      where
        over : suc (suc r) ≤ 1 → ⊥
        over h = omega arith

    frame_same : packet_frame_checks q ≡ packet_frame_checks p
    frame_same =
        rw (
          first 0 (omega arith) (omega arith),
          first 1 (omega arith) (omega arith),
          first 2 (omega arith) (omega arith),
          size,
        )

    rate_same : rate_checks q ≡ rate_checks p
    rate_same = rw (first 3 (omega arith) (omega arith))

    time_code_same : SameRule 5
    time_code_same =
        ap (λ (b : Bool). when b (time_code_checks q time_code_at)) timed
        ∙ time_same p q size time_code_at (flags_in p).time_code
        (λ (i : ℕ) low high. rest i (omega (arith, low)) (omega (arith, high)))

    captions_rule_same : SameRule 6
    captions_rule_same =
        ap₂ (λ (b : Bool) (i : ℕ). when b (captions_checks q i)) captioned captions_at_lem
        ∙ captions_same p q size (captions_at p) (flags_in p).cc_data captions_bytes

    pub to_six_same : (r : ℕ) → r ≤ 6 → rule_checks q r ≡ rule_checks p r
    to_six_same =
        one_more SameRule 5
        (one_more SameRule 4
        (one_more SameRule 3 (one_more SameRule 2 (one_more SameRule 1 none_same frame_same) rate_same) refl) time_code_same)
        captions_rule_same

    -- rule 7, where the flags of byte 4 are the same too
    pub services_rule_same : flags_in q ≡ flags_in p → rule_checks q 7 ≡ rule_checks p 7
    services_rule_same flags =
        ap₂ (λ (f : Flags) (i : ℕ). when f.svc_info (services_checks q f i)) flags services_at_lem
        ∙ by (flags_in p).svc_info refl
      where
        by : (present : Bool) → (flags_in p).svc_info ≡ present
            → when present (services_checks q (flags_in p) (services_at p))
            ≡ when present (services_checks p (flags_in p) (services_at p))
        by true on = services_same (services_at p) (own_bytes on) (flags_in p)
        by false off = refl
