-- Rule 8, turn by turn, and rule 9, test by test.
-- Assumes nothing.
use mathlib.Core.List.{List, ◌++◌}
use mathlib.Core.Path.{◌≡◌, ◌∙◌, sym, ap}
use Prim.Native.Nat.{ℕ, zero, suc, ◌+◌, ◌-◌, ◌≤◌, ◌<◌}
use native.Mathlib.Omega.{arith}
use borrow.Author.Tests.{eq-eqb, ne_eqb, le-leb, lt-leb}
use lib.ListN.{length}
use Rattle.std.specs.Prelude.{Ok, Err}
use Rattle.basis.proofs.Verdicts.{and_then, verdict_append}
use Rattle.basis.specs.declared.refusal.Refusal.TheVariants.{ChecksumFailed, LengthMismatch, SequenceCountMismatch, WrongMagic}
use Rattle.basis.specs.Bytes.{byte}
use Rattle.basis.specs.Check.{Verdict, refused_at, verdict}
use Rattle.basis.specs.Code.{outcome}
use Rattle.values.specs.Sequence.{sequence_of}
use Rattle.values.specs.Layout.{footer_size}
use Rattle.read_closing.specs.Closing.{
  checksum_of,
  closing_checks,
  footer_checks,
  footer_from,
  future_checks,
  future_checks_at,
  future_length,
}
use Rattle.read_closing.specs.Code.{closing_read, footer_read}

-- rule 9
module _ (p : List ℕ) (sequence i : ℕ) where
  pub footer_short : length p < i + footer_size
      → Err (refused_at (LengthMismatch (i + footer_size) (length p)) (length p)) ≡ footer_read p sequence i
  unfolding footer_read
  footer_short a = simp (lt-leb _ _ a)

  module _ (long : i + footer_size ≤ length p) where
    pub other_sequence : (sequence_of (byte p (i + 1)) (byte p (i + 2)) ≡ sequence → ⊥)
        → Err (refused_at SequenceCountMismatch (i + 1)) ≡ footer_read p sequence i
    unfolding footer_read
    other_sequence a = simp (le-leb _ _ long, ne_eqb _ _ a)

    module _ (same : sequence_of (byte p (i + 1)) (byte p (i + 2)) ≡ sequence) where
      pub other_checksum : (byte p (i + 3) ≡ checksum_of p → ⊥)
          → Err (refused_at ChecksumFailed (i + 3)) ≡ footer_read p sequence i
      unfolding footer_read
      other_checksum a = simp (le-leb _ _ long, eq-eqb _ _ same, ne_eqb _ _ a)

      pub footer_whole : byte p (i + 3) ≡ checksum_of p → Ok tt ≡ footer_read p sequence i
      unfolding footer_read
      footer_whole a = simp (le-leb _ _ long, eq-eqb _ _ same, eq-eqb _ _ a)

-- what is left to test at i, with so many turns to go
unfoldable pub ahead : List ℕ → ℕ → ℕ → ℕ → Verdict
ahead p sequence turns i = verdict (future_checks turns p i ++ footer_checks p sequence (footer_from turns p i))

-- a place that the walk over the future sections comes to
pub record Reached (p : List ℕ) (sequence at i : ℕ) : Type 0 where
  pub turns : ℕ
  pub inside : i + 2 ≤ length p
  pub enough : length p ≤ turns + i
  pub left : outcome (ahead p sequence turns i) ≡ closing_read p sequence at

module _ (p : List ℕ) (sequence at : ℕ) where
  pub nothing_there : length p < at + 2
      → Err (refused_at (LengthMismatch (at + 2) (length p)) (length p)) ≡ closing_read p sequence at
  unfolding closing_read closing_checks
  nothing_there a = simp (lt-leb _ _ a)

  pub begins : at + 2 ≤ length p → Reached p sequence at at
  unfolding ahead closing_read closing_checks
  begins a = record { turns = length p; inside = a; enough = omega arith; left = simp (le-leb _ _ a) }

  module _ (i : ℕ) where
    ahead_footer : (turns : ℕ) → 0 < turns → byte p i ≡ 0x74
        → ahead p sequence turns i ≡ verdict (footer_checks p sequence i)
    unfolding ahead
    ahead_footer zero h id = absurd (omega arith)
    ahead_footer (suc k) h id = simp (eq-eqb _ _ id)

    ahead_future : (turns : ℕ) → 0 < turns → (byte p i ≡ 0x74 → ⊥)
        → ahead p sequence turns i
        ≡ and_then (verdict (future_checks_at p i)) (ahead p sequence (turns - 1) (i + 2 + future_length p i))
    unfolding ahead
    ahead_future zero h id = absurd (omega arith)
    ahead_future (suc k) h id =
        let e : suc k - 1 ≡ k = omega arith in
        let behind : ℕ = i + 2 + future_length p i in
        rw e
        (simp (ne_eqb _ _ id)
        (verdict_append (future_checks_at p i)
        (future_checks k p behind ++ footer_checks p sequence (footer_from k p behind))))

  module _ (i : ℕ) (r : Reached p sequence at i) where
    pub footer_reached : byte p i ≡ 0x74 → footer_read p sequence i ≡ closing_read p sequence at
    unfolding footer_read
    footer_reached id = ap outcome (sym (ahead_footer i r.turns (omega arith) id)) ∙ r.left

    module _ (other : byte p i ≡ 0x74 → ⊥) where
      as_turn :
          outcome (and_then (verdict (future_checks_at p i)) (ahead p sequence (r.turns - 1) (i + 2 + byte p (i + 1))))
          ≡ closing_read p sequence at
      as_turn = ap outcome (sym (ahead_future i r.turns (omega arith) other)) ∙ r.left

      pub id_low : byte p i < 0x75 → Err (refused_at WrongMagic i) ≡ closing_read p sequence at
      id_low a = simp (lt-leb _ _ a) at as_turn

      module _ (low : 0x75 ≤ byte p i) where
        pub id_high : 0xEF < byte p i → Err (refused_at WrongMagic i) ≡ closing_read p sequence at
        id_high a = simp (le-leb _ _ low, lt-leb _ _ a) at as_turn

        module _ (high : byte p i ≤ 0xEF) where
          pub future_cut : length p < i + 1 + byte p (i + 1)
              → Err (refused_at (LengthMismatch (i + 1 + byte p (i + 1)) (length p)) (length p)) ≡ closing_read p sequence at
          future_cut a = simp (le-leb _ _ low, le-leb _ _ high, lt-leb _ _ a) at as_turn

          module _ (fits : i + 1 + byte p (i + 1) ≤ length p) where
            pub nothing_behind : length p < i + 2 + byte p (i + 1) + 2
                → Err (refused_at (LengthMismatch (i + 2 + byte p (i + 1) + 2) (length p)) (length p))
                ≡ closing_read p sequence at
            nothing_behind a = simp (le-leb _ _ low, le-leb _ _ high, le-leb _ _ fits, lt-leb _ _ a) at as_turn

            pub goes_on : i + 2 + byte p (i + 1) + 2 ≤ length p → Reached p sequence at (i + 2 + byte p (i + 1))
            goes_on a =
                record {
                  turns = r.turns - 1;
                  inside = a;
                  enough = omega arith;
                  left = simp (le-leb _ _ low, le-leb _ _ high, le-leb _ _ fits, le-leb _ _ a) at as_turn;
                }
