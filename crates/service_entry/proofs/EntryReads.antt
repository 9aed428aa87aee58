-- Reading an entry, test by test: what the definition gives where a test is the first that fails, and where none does;
-- and where the place of what is refused stands.
-- Assumes nothing.
use mathlib.Core.Path.{◌≡◌, refl, ap}
use mathlib.Core.Bool.{Bool, true, false, cond, not}
use mathlib.Core.List.{List}
use mathlib.Core.Logic.{◌⊎◌, inl, inr}
use Prim.Native.Nat.{ℕ, ◌/◌, ◌%◌, ◌≤◌}
use native.Mathlib.Omega.{arith}
use borrow.Author.Tests.{eq-eqb, ne_eqb}
use lib.Dec.{eqb}
use Rattle.std.specs.Prelude.{Ok, Err}
use Rattle.basis.proofs.Readings.{place_read}
use Rattle.basis.proofs.Holds.{Within, fixed, none, place_most, placed_in}
use Rattle.basis.specs.declared.refusal.Refusal.TheVariants.{InvalidFixedBits, InvalidServiceNumber}
use Rattle.basis.specs.Bytes.{byte}
use Rattle.basis.specs.Check.{Verdict, check_at, read_place, refused_at, verdict}
use Rattle.basis.specs.declared.refusal.Refused.{Refused}
use Rattle.basis.specs.declared.test.ByteTest.TheVariants.{KindField, KindNumber}
use Rattle.basis.specs.declared.test.Test.TheVariants.{Byte}
use Rattle.basis.specs.Mask.{all_clear, all_set, x80, x3e, x3f}
use Rattle.service_entry.specs.Entry.{kind_check, entry_checks, service_of, entry_of, entry_read}
use Rattle.service_entry.specs.declared.service.FieldOrService.TheVariants.{Field, Service}

-- E2 kept: digital with a number, or a field with all of 3E
abbrev pub Kind : ℕ → Type 0
Kind k = ((k / 128 % 2 ≡ 1) × (k % 64 ≡ 0 → ⊥)) ⊎ ((k / 128 % 2 ≡ 1 → ⊥) × (k / 2 % 32 ≡ 31))

kind_kept : (k : ℕ) → Kind k → (kind_check k).kept ≡ true
kind_kept k (inl (a, b)) =
    let n : k / 1 % 64 ≡ 0 → ⊥ = λ h. b (omega arith) in
    simp (eq-eqb _ _ a, ne_eqb _ _ n)
kind_kept k (inr (a, b)) = simp (ne_eqb _ _ a, eq-eqb _ _ b)

module _ (e : List ℕ) where
  pub no_40 : (byte e 3 / 64 % 2 ≡ 1 → ⊥) → Err (refused_at InvalidFixedBits 3) ≡ entry_read e
  unfolding entry_read
  no_40 a = simp (ne_eqb _ _ a)

  module _ (has_40 : byte e 3 / 64 % 2 ≡ 1) where
    pub no_number : byte e 3 / 128 % 2 ≡ 1 → byte e 3 % 64 ≡ 0
        → Err (refused_at InvalidServiceNumber 3) ≡ entry_read e
    unfolding entry_read
    no_number a b =
        let n : byte e 3 / 1 % 64 ≡ 0 = omega arith in
        simp (eq-eqb _ _ has_40, eq-eqb _ _ a, eq-eqb _ _ n)

    pub no_3_e : (byte e 3 / 128 % 2 ≡ 1 → ⊥) → (byte e 3 / 2 % 32 ≡ 31 → ⊥)
        → Err (refused_at InvalidFixedBits 3) ≡ entry_read e
    unfolding entry_read
    no_3_e a b = simp (eq-eqb _ _ has_40, ne_eqb _ _ a, ne_eqb _ _ b)

    pub no_3_f : Kind (byte e 3) → (byte e 4 % 64 ≡ 63 → ⊥) → Err (refused_at InvalidFixedBits 4) ≡ entry_read e
    unfolding entry_read
    no_3_f k a =
        let n : byte e 4 / 1 % 64 ≡ 63 → ⊥ = λ h. a (omega arith) in
        simp (eq-eqb _ _ has_40, kind_kept _ k, ne_eqb _ _ n)

    pub no_ff : Kind (byte e 3) → byte e 4 % 64 ≡ 63 → (byte e 5 ≡ 0xFF → ⊥)
        → Err (refused_at InvalidFixedBits 5) ≡ entry_read e
    unfolding entry_read
    no_ff k a b =
        let n : byte e 4 / 1 % 64 ≡ 63 = omega arith in
        simp (eq-eqb _ _ has_40, kind_kept _ k, eq-eqb _ _ n, ne_eqb _ _ b)

    pub all_right : Kind (byte e 3) → byte e 4 % 64 ≡ 63 → byte e 5 ≡ 0xFF
        → Ok (entry_of e) ≡ entry_read e
    unfolding entry_read
    all_right k a b =
        let n : byte e 4 / 1 % 64 ≡ 63 = omega arith in
        simp (eq-eqb _ _ has_40, kind_kept _ k, eq-eqb _ _ n, eq-eqb _ _ b)

-- every refusal has one of the six bytes as its place
kind_within : (digital kept kept' : Bool)
    → placed_in false 6 (cond digital (check_at 3 (Byte KindNumber) kept InvalidServiceNumber)
    (check_at 3 (Byte KindField) kept' InvalidFixedBits)).rule ≡ true
kind_within true kept kept' = refl
kind_within false kept kept' = refl

pub entry_within : (e : List ℕ) → Within 6 (entry_checks e)
entry_within e =
    fixed refl
    (fixed (kind_within (all_set x80 (byte e 3)) (not (all_clear x3f (byte e 3))) (all_set x3e (byte e 3)))
    (fixed refl (fixed refl none)))

pub entry_near : (e : List ℕ) → read_place (entry_read e) ≤ 6
unfolding entry_read
entry_near e =
    let v : Verdict = verdict (entry_checks e) in
    rw (place_read v (entry_of e)) (place_most false 6 v (entry_within e).it)

-- so is that of a refusal that was given
pub entry_near_refused : (e : List ℕ) (r : Refused) → entry_read e ≡ Err r → r.place ≤ 6
entry_near_refused e r h = rw (← ap read_place h) (entry_near e)

-- what bytes 3 and 4 name
module _ (k f : ℕ) where
  pub digital_is : k / 128 % 2 ≡ 1
      → Service (record {
        service = k % 64;
        easy_reader = eqb (f / 128 % 2) 1;
        wide_aspect_ratio = eqb (f / 64 % 2) 1;
      }) ≡ service_of k f
  digital_is a =
      let n : k / 1 % 64 ≡ k % 64 = omega arith in
      simp (eq-eqb _ _ a, n)

  pub field_is : (k / 128 % 2 ≡ 1 → ⊥) → Field (eqb (k % 2) 0) ≡ service_of k f
  field_is a =
      let n : k / 1 % 2 ≡ k % 2 = omega arith in
      simp (ne_eqb _ _ a, n)
