-- What is left by an answer's number: a size, an id, a byte with fixed bits, or one test alone.
-- Assumes nothing.
use mathlib.Core.List.{List}
use mathlib.Core.Path.{◌≡◌, sym, refl, ap}
use Prim.Native.Nat.{ℕ, ◌<◌}
use native.Mathlib.Omega.{arith}
use borrow.Author.Tests.{ne_eqb}
use Rattle.basis.specs.Answer.{refused}
use Rattle.basis.specs.Check.{Rule}
use Rattle.basis.specs.declared.test.ByteTest.TheVariants.{Checksum, HeaderNumber, KindNumber, Rate, ServicesFlags}
use Rattle.basis.specs.declared.test.PairTest.TheVariants.{FooterSequence, Magic}
use Rattle.basis.specs.declared.test.SizeTest.{SizeTest}
use Rattle.basis.specs.declared.test.Test.TheVariants.{Byte, Pair, Size}
use Rattle.explain_find.specs.Code.{bits_test, id_test, size_test, test_from}

module _ (p : List ℕ) where
  -- what is claimed of a rule that is broken
  abbrev pub Found : Rule → Type 0
  Found rule = test_from p (refused rule.refusal).number rule.at.place ≡ rule.at.test

  -- of a part's rule, whose places stand there in the packet
  abbrev pub FoundAt : (ℕ → ℕ) → Rule → Type 0
  FoundAt there rule = test_from p (refused rule.refusal).number (there rule.at.place) ≡ rule.at.test

  pub of_size : {test : SizeTest} (place : ℕ) → test ≡ size_test p → test_from p 1 place ≡ Size test
  unfolding test_from
  of_size place e = ap Size (sym e)

  pub of_id : (place : ℕ) → 0 < place → test_from p 2 place ≡ Byte (id_test p place)
  unfolding test_from
  of_id place h = simp (ne_eqb place 0 (λ e. omega arith))

  pub of_bits : (place : ℕ) → test_from p 4 place ≡ Byte (bits_test p place)
  unfolding test_from
  of_bits place = refl

  -- the answers that leave one test
  pub of_magic : test_from p 2 0 ≡ Pair Magic
  unfolding test_from
  of_magic = refl

  pub of_rate : (place : ℕ) → test_from p 3 place ≡ Byte Rate
  unfolding test_from
  of_rate place = refl

  pub of_checksum : (place : ℕ) → test_from p 5 place ≡ Byte Checksum
  unfolding test_from
  of_checksum place = refl

  pub of_sequence : (place : ℕ) → test_from p 6 place ≡ Pair FooterSequence
  unfolding test_from
  of_sequence place = refl

  pub of_number : (place : ℕ) → test_from p 7 place ≡ Byte HeaderNumber
  unfolding test_from
  of_number place = refl

  pub of_kind : (place : ℕ) → test_from p 8 place ≡ Byte KindNumber
  unfolding test_from
  of_kind place = refl

  pub of_flags : (place : ℕ) → test_from p 9 place ≡ Byte ServicesFlags
  unfolding test_from
  of_flags place = refl
