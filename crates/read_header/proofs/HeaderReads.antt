-- Rules 2 and 3, test by test: what the definition gives where a test is the first that fails, and where none does;
-- and where the place of what is refused stands.
-- Assumes nothing.
use mathlib.Core.Bool.{true}
use mathlib.Core.List.{List}
use mathlib.Core.Path.{◌≡◌, refl}
use Prim.Native.Nat.{ℕ, ◌≤◌, ◌<◌}
use Rattle.std.specs.Prelude.{Option, Result, Some, None, Ok, Err, is_some, unwrap_or}
use Rattle.basis.proofs.Verdicts.{append_second, kept_at_lem}
use Rattle.basis.specs.Check.{clear, refused_at, verdict}
use Rattle.basis.specs.declared.refusal.Refused.{Refused}
use Rattle.values.specs.Rate.{row}
use Rattle.values.specs.declared.framerate.Framerate.{Framerate}
use Rattle.read_header.specs.Header.{packet_frame_checks, rate_checks}
use mathlib.Core.Bool.{false≢true}
use native.Mathlib.Omega.{arith}
use borrow.Author.Tests.{eq-eqb, ne_eqb, le-leb, lt-leb, lt-ltb}
use lib.ListN.{length}
use Rattle.basis.proofs.Holds.{Inside, also, at_size, fixed, none}
use Rattle.basis.specs.declared.refusal.Refusal.TheVariants.{LengthMismatch, WrongMagic, UnknownFramerate}
use Rattle.basis.specs.Bytes.{byte}
use Rattle.read_header.specs.Header.{flags_in, header_checks, rate_of, sequence_in}
use Rattle.read_header.specs.Code.{header_read, rate_in}
use Rattle.read_header.specs.declared.header.Header.{Header}

module _ (p : List ℕ) where
  pub too_short : length p < 11 → Err (refused_at (LengthMismatch 11 (length p)) (length p)) ≡ header_read p
  unfolding header_read
  too_short a = simp (lt-leb _ _ a)

  module _ (long : 11 ≤ length p) where
    pub other_first : (byte p 0 ≡ 0x96 → ⊥) → Err (refused_at WrongMagic 0) ≡ header_read p
    unfolding header_read
    other_first a = simp (le-leb _ _ long, ne_eqb _ _ a)

    module _ (first : byte p 0 ≡ 0x96) where
      pub other_second : (byte p 1 ≡ 0x69 → ⊥) → Err (refused_at WrongMagic 0) ≡ header_read p
      unfolding header_read
      other_second a = simp (le-leb _ _ long, eq-eqb _ _ first, ne_eqb _ _ a)

      module _ (second : byte p 1 ≡ 0x69) where
        pub other_size : (byte p 2 ≡ length p → ⊥)
            → Err (refused_at (LengthMismatch (byte p 2) (length p)) (length p)) ≡ header_read p
        unfolding header_read
        other_size a = simp (le-leb _ _ long, eq-eqb _ _ first, eq-eqb _ _ second, ne_eqb _ _ a)

        module _ (size : byte p 2 ≡ length p) where
          pub no_rate : rate_of p ≡ None → Err (refused_at UnknownFramerate 3) ≡ header_read p
          unfolding header_read
          no_rate a = simp (le-leb _ _ long, eq-eqb _ _ first, eq-eqb _ _ second, eq-eqb _ _ size, a)

          pub header_whole : (rate : Framerate) → rate_of p ≡ Some rate
              → ◌≡◌ {A = Result Header Refused}
              (Ok (record { framerate = rate; flags = flags_in p; sequence = sequence_in p }))
              (header_read p)
          unfolding header_read
          header_whole rate a = simp (le-leb _ _ long, eq-eqb _ _ first, eq-eqb _ _ second, eq-eqb _ _ size, a)

-- a header that is right has a rate
pub rate_there : (p : List ℕ) → verdict (header_checks p) ≡ clear → Some (rate_in p) ≡ rate_of p
rate_there p h = there (rate_of p) (kept_at_lem 0 (rate_checks p) (append_second (packet_frame_checks p) (rate_checks p) h))
  where
    there : (found : Option Framerate) → is_some found ≡ true → Some (unwrap_or found (row 0 0 0)) ≡ found
    there (Some rate) a = refl
    there None a = absurd (false≢true a)

-- every refusal's place is inside the packet, or its end beside 1
pub header_inside : (p : List ℕ) → Inside (length p) (header_checks p)
header_inside p =
    at_size p 11
    (λ long. fixed (lt-ltb 0 (length p) (omega arith))
    (also (λ _. eq-eqb (length p) (length p) refl) (λ _. fixed (lt-ltb 3 (length p) (omega arith)) none)))
