-- The one law of both halves: a check that looks at no byte of the span is the same check for both packets.
-- Assumes nothing.
use mathlib.Core.Bool.{Bool, true, false, cond}
use mathlib.Core.List.{List, [], ◌∷◌, ◌++◌}
use mathlib.Core.Path.{◌≡◌, ◌∙◌, sym, refl, ap, ap₂}
use Prim.Native.Nat.{ℕ, zero, suc, ◌+◌, ◌-◌, ◌≤◌, ◌<◌}
use native.Mathlib.Omega.{arith}
use borrow.Author.Tests.{eq-eqb}
use lib.Dec.{eqb}
use lib.ListN.{length}
use Rattle.basis.specs.Bytes.{byte}
use Rattle.basis.specs.Check.{size_when, when, size_check}
use Rattle.basis.specs.declared.test.SizeTest.TheVariants.{ClosingHead}
use Rattle.values.specs.Layout.{footer_size, time_code_size}
use Rattle.read_captions.specs.Captions.{captions_checks, captions_size}
use Rattle.read_header.specs.Header.{flags_in, header_checks}
use Rattle.read_time_code.specs.TimeCode.{time_code_checks, time_code_of}
use Rattle.read_closing.specs.Closing.{
  checksum_of,
  closing_checks,
  footer_checks,
  footer_from,
  future_checks,
  future_checks_at,
  future_length,
}
use Rattle.read_services.specs.Services.{services_size}
use Rattle.read_packet.specs.Packet.{closing_at, services_at}
use Rattle.theorem_altered.proofs.Spans.{bytes_same}
use Rattle.theorem_altered.specs.Alteration.{Put}

-- bytes from one place up to another are the same
abbrev pub Same : List ℕ → List ℕ → ℕ → ℕ → Type 0
Same p q from to = (i : ℕ) → from ≤ i → i < to → byte q i ≡ byte p i

module _ (p q : List ℕ) (size : length q ≡ length p) where
  -- rules 2 and 3 look at bytes 0 to 3
  pub header_same : Same p q 0 4 → header_checks q ≡ header_checks p
  header_same same =
      rw (
        same 0 (omega arith) (omega arith),
        same 1 (omega arith) (omega arith),
        same 2 (omega arith) (omega arith),
        same 3 (omega arith) (omega arith),
        size,
      )

  -- rule 5 looks at the five bytes from i on
  module _ (i : ℕ) where
    pub time_same : (present : Bool) → Same p q i (i + size_when present time_code_size)
        → when present (time_code_checks q i) ≡ when present (time_code_checks p i)
    time_same true same =
        rw (
          same i (omega arith) (omega arith),
          same (i + 1) (omega arith) (omega arith),
          same (i + 2) (omega arith) (omega arith),
          same (i + 4) (omega arith) (omega arith),
          size,
        )
    time_same false same = refl

    pub time_shown : (present : Bool) → Same p q i (i + size_when present time_code_size)
        → time_code_of q present i ≡ time_code_of p present i
    time_shown true same =
        rw (
          same (i + 1) (omega arith) (omega arith),
          same (i + 2) (omega arith) (omega arith),
          same (i + 3) (omega arith) (omega arith),
          same (i + 4) (omega arith) (omega arith),
        )
    time_shown false same = refl

    -- rule 6 looks at the two bytes from i on, and at no caption byte
    pub captions_same : (present : Bool) → Same p q i (i + size_when present 2)
        → when present (captions_checks q i) ≡ when present (captions_checks p i)
    captions_same true same = rw (same i (omega arith) (omega arith), same (i + 1) (omega arith) (omega arith), size)
    captions_same false same = refl

    pub captions_size_lem : (present : Bool) → Same p q i (i + size_when present 2)
        → size_when present (captions_size q i) ≡ size_when present (captions_size p i)
    captions_size_lem true same = rw (same (i + 1) (omega arith) (omega arith))
    captions_size_lem false same = refl

  -- rules 8 and 9 look at what stands from i on, at the last byte by the checksum's check alone
  abbrev next : ℕ → ℕ
  next i = i + 2 + future_length p i

  moves : (i footer : ℕ) (here : Bool) → next i ≤ footer → i ≤ cond here i footer
  moves i footer true h = omega arith
  moves i footer false h = omega (arith, h)

  pub further : (turns i : ℕ) → i ≤ footer_from turns p i
  further zero i = omega arith
  further (suc turns) i = moves i (footer_from turns p (next i)) (eqb (byte p i) 0x74) (further turns (next i))

  section_same : (i : ℕ) → Same p q i (i + 2) → future_checks_at q i ≡ future_checks_at p i
  section_same i same = rw (same i (omega arith) (omega arith), same (i + 1) (omega arith) (omega arith), size)

  -- the same sections are walked over, and the footer is found at the same place
  abbrev pub Walked : ℕ → ℕ → Type 0
  Walked turns i = (future_checks turns q i ≡ future_checks turns p i) × (footer_from turns q i ≡ footer_from turns p i)

  module _ (end : ℕ) where
    turn : (turns i : ℕ) (here : Bool) → Same p q i end → cond here i (footer_from turns p (next i)) + 2 ≤ end
        → (Same p q (next i) end → footer_from turns p (next i) + 2 ≤ end → Walked turns (next i))
        → (cond here [] (future_checks_at q i ++ future_checks turns q (i + 2 + future_length q i))
        ≡ cond here [] (future_checks_at p i ++ future_checks turns p (next i)))
        × (cond here i (footer_from turns q (i + 2 + future_length q i)) ≡ cond here i (footer_from turns p (next i)))
    turn turns i true same h later = (refl, refl)
    turn turns i false same h later =
        let beyond : next i ≤ footer_from turns p (next i) = further turns (next i) in
        let two : Same p q i (i + 2) = λ (k : ℕ) low high. same k low (omega (arith, h, beyond, high)) in
        let long : future_length q i ≡ future_length p i = two (i + 1) (omega arith) (omega arith) in
        let rest : Walked turns (next i) = later (λ (k : ℕ) low high. same k (omega (arith, low)) high) h in (
          ap₂ ◌++◌ (section_same i two) (ap (λ (k : ℕ). future_checks turns q (i + 2 + k)) long ∙ rest.0),
          ap (λ (k : ℕ). footer_from turns q (i + 2 + k)) long ∙ rest.1,
        )

    pub walked : (turns i : ℕ) → Same p q i end → footer_from turns p i + 2 ≤ end → Walked turns i
    walked zero i same h = (refl, refl)
    walked (suc turns) i same h =
        let first : byte q i ≡ byte p i = same i (omega arith) (omega (arith, h, further (suc turns) i)) in
        let rest = turn turns i (eqb (byte p i) 0x74) same h (λ s k. walked turns (next i) s k) in (
          ap
              (λ (b : ℕ). cond (eqb b 0x74) []
              (future_checks_at q i ++ future_checks turns q (i + 2 + future_length q i))) first
              ∙ rest.0,
          ap (λ (b : ℕ). cond (eqb b 0x74) i (footer_from turns q (i + 2 + future_length q i))) first ∙ rest.1,
        )

  -- where the packet ends with its footer, and both have their checksum
  module _ (i sequence : ℕ) (same : Same p q i (length p - 1)) (ends : length p ≡ footer_from (length p) p i + footer_size)
      (sum : byte p (length p - 1) ≡ checksum_of p) (mended : byte q (length q - 1) ≡ checksum_of q) where
    abbrev footer : ℕ
    footer = footer_from (length p) p i

    summed : eqb (byte q (footer + 3)) (checksum_of q) ≡ eqb (byte p (footer + 3)) (checksum_of p)
    summed =
        let last : footer + 3 ≡ length p - 1 = omega (arith, ends) in
        let last' : footer + 3 ≡ length q - 1 = omega (arith, ends, size) in
        eq-eqb _ _ (ap (byte q) last' ∙ mended) ∙ sym (eq-eqb _ _ (ap (byte p) last ∙ sum))

    footer_same : footer_checks q sequence footer ≡ footer_checks p sequence footer
    footer_same =
        let from : i ≤ footer = further (length p) i in
        rw (
          same (footer + 1) (omega (arith, from)) (omega (arith, ends)),
          same (footer + 2) (omega (arith, from)) (omega (arith, ends)),
          summed,
          size,
        )

    pub closing_same : closing_checks q sequence i ≡ closing_checks p sequence i
    unfolding closing_checks
    closing_same =
        let steps : Walked (length p) i = walked (length p - 1) (length p) i same (omega (arith, ends)) in
        let future : future_checks (length q) q i ≡ future_checks (length p) p i =
        ap (λ (n : ℕ). future_checks n q i) size ∙ steps.0 in
        let place : footer_from (length q) q i ≡ footer = ap (λ (n : ℕ). footer_from n q i) size ∙ steps.1 in
        let room : size_check ClosingHead q (i + 2) ≡ size_check ClosingHead p (i + 2) = rw size in
        ap₂ ◌∷◌ room (ap₂ ◌++◌ future (ap (footer_checks q sequence) place ∙ footer_same))

-- what is the same where bytes were put, and how far the packet goes on behind its sections
module _ (from to : ℕ) (p q : List ℕ) (put : Put from to p q) where
  pub before : Same p q 5 from
  before i low high = bytes_same p q 5 (from - 5) put.before_span i low (omega (arith, low, high))

  pub behind : Same p q to (length p - 1)
  behind i low high = bytes_same p q to (length p - 1 - to) put.behind_span i low (omega (arith, low, high))

  pub closing_fits : closing_at p + footer_size ≤ length p
  closing_fits = omega (arith, put.ends_with_footer, further p q put.equally_many (length p) (closing_at p))

  pub section_fits : (flags_in p).svc_info ≡ true → services_at p + services_size p (services_at p) + footer_size ≤ length p
  section_fits on =
      let place : closing_at p ≡ services_at p + services_size p (services_at p) =
      ap (λ (b : Bool). services_at p + size_when b (services_size p (services_at p))) on in
      omega (arith, place, closing_fits)
