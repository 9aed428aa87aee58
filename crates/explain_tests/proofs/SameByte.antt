-- What the tests of one byte take, where a byte has more of them than one: each list of tests comes to the same.
-- Assumes nothing.
use mathlib.Core.Bool.{Bool, true, false, cond, not, ◌&&◌, ◌||◌}
use mathlib.Core.Path.{◌≡◌, refl}
use Prim.Native.Nat.{ℕ, ◌/◌, ◌%◌}
use native.Mathlib.Omega.{arith}
use lib.Dec.{eqb}
use Rattle.basis.specs.Mask.{all_clear, all_set, x20, x3e, x3f, x40, x80}
use Rattle.basis.specs.declared.test.ByteTest.TheVariants.{
  HeaderFixed,
  HeaderForm,
  HeaderNumber,
  KindField,
  KindFixed,
  KindNumber,
}
use Rattle.service_entries.specs.Entries.{named_by}
use Rattle.explain_tests.specs.Code.{header_takes, kind_takes}
use Rattle.explain_tests.specs.Tests.{takes}

-- the low bits, as the code has them
pub six_bits : (v : ℕ) → v / 1 % 64 ≡ v % 64
six_bits v = omega arith

pub five_bits : (v : ℕ) → v / 1 % 32 ≡ v % 32
five_bits v = omega arith

-- 80, and with 40 also 20
header_first : (f s t : Bool) → cond f (cond s t true) false ≡ (((not s || t) && true) && f)
header_first true true true = refl
header_first true true false = refl
header_first true false true = refl
header_first true false false = refl
header_first false true true = refl
header_first false true false = refl
header_first false false true = refl
header_first false false false = refl

header_second : (f s t : Bool) → cond f (cond s t true) false ≡ ((f && true) && (not s || t))
header_second true true true = refl
header_second true true false = refl
header_second true false true = refl
header_second true false false = refl
header_second false true true = refl
header_second false true false = refl
header_second false false true = refl
header_second false false false = refl

header_third : (f s t e : Bool) → cond (cond f (cond s t true) false) e false ≡ ((f && ((not s || t) && true)) && e)
header_third true true true true = refl
header_third true true true false = refl
header_third true true false true = refl
header_third true true false false = refl
header_third true false true true = refl
header_third true false true false = refl
header_third true false false true = refl
header_third true false false false = refl
header_third false true true true = refl
header_third false true true false = refl
header_third false true false true = refl
header_third false true false false = refl
header_third false false true true = refl
header_third false false true false = refl
header_third false false false true = refl
header_third false false false false = refl

-- 40, and with 80 a number, without it 3E
kind_first : (f d n x : Bool) → cond f (cond d n x) false ≡ (((not d || n) && ((d || x) && true)) && f)
kind_first true true true true = refl
kind_first true true true false = refl
kind_first true true false true = refl
kind_first true true false false = refl
kind_first true false true true = refl
kind_first true false true false = refl
kind_first true false false true = refl
kind_first true false false false = refl
kind_first false true true true = refl
kind_first false true true false = refl
kind_first false true false true = refl
kind_first false true false false = refl
kind_first false false true true = refl
kind_first false false true false = refl
kind_first false false false true = refl
kind_first false false false false = refl

kind_second : (f d n x : Bool) → cond f (cond d n x) false ≡ ((f && ((d || x) && true)) && (not d || n))
kind_second true true true true = refl
kind_second true true true false = refl
kind_second true true false true = refl
kind_second true true false false = refl
kind_second true false true true = refl
kind_second true false true false = refl
kind_second true false false true = refl
kind_second true false false false = refl
kind_second false true true true = refl
kind_second false true true false = refl
kind_second false true false true = refl
kind_second false true false false = refl
kind_second false false true true = refl
kind_second false false true false = refl
kind_second false false false true = refl
kind_second false false false false = refl

kind_third : (f d n x : Bool) → cond f (cond d n x) false ≡ ((f && ((not d || n) && true)) && (d || x))
kind_third true true true true = refl
kind_third true true true false = refl
kind_third true true false true = refl
kind_third true true false false = refl
kind_third true false true true = refl
kind_third true false true false = refl
kind_third true false false true = refl
kind_third true false false false = refl
kind_third false true true true = refl
kind_third false true true false = refl
kind_third false true false true = refl
kind_third false true false false = refl
kind_third false false true true = refl
kind_third false false true false = refl
kind_third false false false true = refl
kind_third false false false false = refl

module _ (said v : ℕ) where
  pub header_fixed : header_takes v ≡ takes HeaderFixed said v
  header_fixed = header_first (all_set x80 v) (all_set x40 v) (all_set x20 v)

  pub header_form : header_takes v ≡ takes HeaderForm said v
  header_form = header_second (all_set x80 v) (all_set x40 v) (all_set x20 v)

  pub header_number : cond (header_takes v) (eqb (named_by v) said) false ≡ takes HeaderNumber said v
  header_number = header_third (all_set x80 v) (all_set x40 v) (all_set x20 v) (eqb (named_by v) said)

  pub kind_fixed : kind_takes v ≡ takes KindFixed said v
  kind_fixed = kind_first (all_set x40 v) (all_set x80 v) (not (all_clear x3f v)) (all_set x3e v)

  pub kind_number : kind_takes v ≡ takes KindNumber said v
  kind_number = kind_second (all_set x40 v) (all_set x80 v) (not (all_clear x3f v)) (all_set x3e v)

  pub kind_field : kind_takes v ≡ takes KindField said v
  kind_field = kind_third (all_set x40 v) (all_set x80 v) (not (all_clear x3f v)) (all_set x3e v)
