-- Rule 5, test by test: what the definition gives where a test is the first that fails, and where none does;
-- and where the place of what is refused stands.
-- Assumes nothing.
use mathlib.Core.Bool.{Bool, true, false}
use mathlib.Core.List.{List}
use mathlib.Core.Path.{◌≡◌, ◌∙◌, ap, sym}
use Prim.Native.Nat.{ℕ, ◌+◌, ◌≤◌, ◌<◌}
use native.Mathlib.Omega.{arith}
use borrow.Author.Tests.{eq-eqb, ne_eqb, le-leb, lt-leb, lt-ltb}
use lib.ListN.{length}
use Rattle.std.specs.Prelude.{Result, Ok, Err}
use Rattle.basis.proofs.Holds.{Inside, at_size, fixed, part_inside}
use Rattle.basis.proofs.Readings.{answer_read, given_clear, given_value, refused_moved}
use Rattle.basis.proofs.Verdicts.{moved_verdict, verdict_moved}
use Rattle.basis.specs.declared.refusal.Refusal.TheVariants.{LengthMismatch, WrongMagic}
use Rattle.basis.specs.declared.refusal.Refused.{Refused}
use Rattle.basis.specs.Bytes.{byte}
use Rattle.basis.specs.Check.{Check, Rule, Verdict, answer, read_as, refused_at, verdict, when}
use Rattle.values_time.proofs.TimeReads.{time_within}
use Rattle.values_time.specs.Time.{time_absent, time_checks, time_present, time_read}
use Rattle.read_time_code.specs.TimeCode.{of_four, time_code_checks, time_code_in}
use Rattle.read_time_code.specs.Code.{section_of, time_code_answer, time_code_read}
use Rattle.values.specs.Layout.{time_code_size}
use Rattle.values_time.specs.declared.time.TimeCode.{TimeCode}

-- what reading says of a rule
abbrev says : Rule → Refused
says rule = refused_at rule.refusal rule.at.place

-- a refusal's number and values stand in the table as they are, and beside 0 no size
pub answered : (p : List ℕ) (present : Bool) (i : ℕ)
    → time_code_answer p present i ≡ answer (verdict (when present (time_code_checks p i))) 0
unfolding time_code_read
answered p present i = answer_read (verdict (when present (time_code_checks p i))) (section_of p present i) 0

module _ (p : List ℕ) (i : ℕ) where
  -- the four bytes behind the id byte, read
  abbrev pub four_read : Result TimeCode Refused
  four_read = of_four time_read p i

  abbrev four_checks : List Check
  four_checks = of_four time_checks p i

  abbrev four_verdict : Verdict
  four_verdict = verdict four_checks

  -- every refusal's place is inside the packet, or its end beside 1
  pub time_code_inside : Inside (length p) (time_code_checks p i)
  time_code_inside =
      at_size p (i + time_code_size)
      (λ long. fixed (lt-ltb i (length p) (omega arith))
      (part_inside true (i + 1) 4 (length p) four_checks (omega arith)
      (time_within (byte p (i + 1)) (byte p (i + 2)) (byte p (i + 3)) (byte p (i + 4)))))

  pub not_there : (present : Bool) → present ≡ false
      → Ok (record { time_code = time_absent; size = 0 }) ≡ time_code_read p present i
  unfolding time_code_read
  not_there present a = simp a

  module _ (present : Bool) (there : present ≡ true) where
    pub too_short : length p < i + time_code_size
        → Err (refused_at (LengthMismatch (i + time_code_size) (length p)) (length p)) ≡ time_code_read p present i
    unfolding time_code_read
    too_short a = simp (there, lt-leb _ _ a)

    module _ (long : i + time_code_size ≤ length p) where
      pub other_id : (byte p i ≡ 0x71 → ⊥) → Err (refused_at WrongMagic i) ≡ time_code_read p present i
      unfolding time_code_read
      other_id a = simp (there, le-leb _ _ long, ne_eqb _ _ a)

      module _ (id : byte p i ≡ 0x71) where
        as_section : read_as (moved_verdict (i + 1) four_verdict) (section_of p true i) ≡ time_code_read p present i
        unfolding time_code_read
        as_section =
            ap (λ (v : Verdict). read_as v (section_of p true i)) (sym (verdict_moved (i + 1) four_checks))
            ∙ simp (there, le-leb _ _ long, eq-eqb _ _ id)

        pub bytes_wrong : (r : Refused) → four_read ≡ Err r
            → Err (refused_at r.refusal (i + 1 + r.place)) ≡ time_code_read p present i
        unfolding time_read
        bytes_wrong r h =
            refused_moved (i + 1) four_verdict (time_code_in p i) (section_of p true i) r h ∙ as_section

        pub time_code_whole : (t : TimeCode) → four_read ≡ Ok t
            → Ok (record { time_code = time_present t; size = time_code_size }) ≡ time_code_read p present i
        unfolding time_read
        time_code_whole t h =
            ap (λ (u : TimeCode). Ok (record { time_code = time_present u; size = time_code_size }))
            (given_value says four_verdict (time_code_in p i) t h)
            ∙ ap (λ (v : Verdict). read_as (moved_verdict (i + 1) v) (section_of p true i))
            (sym (given_clear says four_verdict (time_code_in p i) t h))
            ∙ as_section
