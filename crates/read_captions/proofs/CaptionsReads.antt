-- Rule 6, test by test: what the definition gives where a test is the first that fails, and where none does;
-- and where the place of what is refused stands.
-- Assumes nothing.
use mathlib.Core.Bool.{Bool, true, false}
use mathlib.Core.List.{List}
use mathlib.Core.Path.{◌≡◌}
use Prim.Native.Nat.{ℕ, ◌+◌, ◌*◌, ◌/◌, ◌%◌, ◌≤◌, ◌<◌}
use native.Mathlib.Omega.{arith}
use borrow.Author.Tests.{eq-eqb, ne_eqb, le-leb, leb-true, lt-leb, lt-ltb}
use lib.ListN.{length, drop, length-drop}
use lib.Seq.{length-take-le}
use Rattle.std.specs.Prelude.{Ok, Err}
use Rattle.basis.proofs.Holds.{Inside, at_size, fixed, none}
use Rattle.basis.proofs.Verdicts.{kept_at_lem}
use Rattle.basis.specs.declared.refusal.Refusal.TheVariants.{LengthMismatch, WrongMagic, InvalidFixedBits}
use Rattle.basis.specs.Bytes.{byte}
use Rattle.basis.specs.Check.{clear, refused_at, verdict}
use Rattle.values.specs.Layout.{section_head_size, triplet_size}
use Rattle.read_captions.specs.Captions.{caption_count, captions_checks, captions_size, handed_out}
use Rattle.read_captions.specs.Code.{captions_tested}

module _ (p : List ℕ) (i : ℕ) where
  -- the count, as the code has it
  abbrev count : ℕ
  count = byte p (i + 1) % 32

  as_count : byte p (i + 1) / 1 % 32 ≡ count
  as_count = omega arith

  pub not_there : (present : Bool) → present ≡ false → Ok 0 ≡ captions_tested p present i
  unfolding captions_tested
  not_there present a = simp a

  module _ (present : Bool) (there : present ≡ true) where
    pub too_short : length p < i + 2
        → Err (refused_at (LengthMismatch (i + 2) (length p)) (length p)) ≡ captions_tested p present i
    unfolding captions_tested
    too_short a = simp (there, lt-leb _ _ a)

    module _ (long : i + 2 ≤ length p) where
      pub other_id : (byte p i ≡ 0x72 → ⊥) → Err (refused_at WrongMagic i) ≡ captions_tested p present i
      unfolding captions_tested
      other_id a = simp (there, le-leb _ _ long, ne_eqb _ _ a)

      module _ (id : byte p i ≡ 0x72) where
        pub no_e0 : (byte p (i + 1) / 32 % 8 ≡ 7 → ⊥) → Err (refused_at InvalidFixedBits (i + 1)) ≡ captions_tested p present i
        unfolding captions_tested
        no_e0 a = simp (there, le-leb _ _ long, eq-eqb _ _ id, ne_eqb _ _ a)

        module _ (all_e0 : byte p (i + 1) / 32 % 8 ≡ 7) where
          pub captions_cut : length p < i + (section_head_size + triplet_size * count)
              → Err (refused_at (LengthMismatch (i + (section_head_size + triplet_size * count)) (length p)) (length p))
              ≡ captions_tested p present i
          unfolding captions_tested
          captions_cut a = simp (there, le-leb _ _ long, eq-eqb _ _ id, eq-eqb _ _ all_e0, as_count, lt-leb _ _ a)

          pub captions_whole : i + (section_head_size + triplet_size * count) ≤ length p
              → Ok (section_head_size + triplet_size * count) ≡ captions_tested p present i
          unfolding captions_tested
          captions_whole a = simp (there, le-leb _ _ long, eq-eqb _ _ id, eq-eqb _ _ all_e0, as_count, le-leb _ _ a)

  -- an accepted section has all its bytes
  pub captions_there : verdict (captions_checks p i) ≡ clear → i + captions_size p i ≤ length p
  captions_there h = leb-true _ _ (kept_at_lem 3 (captions_checks p i) h)

  -- every refusal's place is inside the packet, or its end beside 1
  pub captions_inside : Inside (length p) (captions_checks p i)
  captions_inside =
      at_size p (i + 2)
      (λ long. fixed (lt-ltb i (length p) (omega arith))
      (fixed (lt-ltb (i + 1) (length p) (omega arith)) (at_size p (i + captions_size p i) (λ _. none))))

  pub handed_long : i + captions_size p i ≤ length p → length (handed_out p i) ≡ captions_size p i
  handed_long h = simp (length-take-le (3 * caption_count p i) (drop (i + 2) p) (rw length-drop (omega arith))) (omega arith)
