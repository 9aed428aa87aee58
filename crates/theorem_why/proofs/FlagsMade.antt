-- What is asked of byte 4 by its six upper bits: 80, 40 and 20 as they are, and start, change and complete as 7.4 has them.
-- Assumes nothing.
use mathlib.Core.Bool.{Bool, beq, true, false, ◌&&◌}
use mathlib.Core.List.{List}
use mathlib.Core.Path.{◌≡◌, ◌∙◌, sym, refl, ap, ap₂}
use Prim.Native.Nat.{ℕ, ◌+◌, ◌*◌, ◌/◌, ◌%◌, ◌<◌}
use native.Mathlib.Omega.{arith}
use borrow.Author.Tests.{eq-eqb, eqb-false, eqb-true, ne_eqb}
use lib.Dec.{eqb}
use Rattle.basis.proofs.Bools.{and_left, and_right}
use Rattle.basis.specs.Bytes.{byte}
use Rattle.basis.specs.Mask.{under, xe0}
use Rattle.basis.specs.declared.test.ByteTest.TheVariants.{ServicesFlags}
use Rattle.values.specs.Flags.{flags_of}
use Rattle.service_list.specs.Section.{list_of}
use Rattle.read_services.proofs.ServicesReads.{byte_one}
use Rattle.read_services.specs.Services.{same_flags, services_part}
use Rattle.read_packet.specs.Packet.{services_at}
use Rattle.explain_tests.specs.Tests.{asks, flags_wanted}

-- two tests that hold together are one
pub same_tests : (a b : Bool) → (a ≡ true → b ≡ true) → (b ≡ true → a ≡ true) → a ≡ b
same_tests true b there back = sym (there refl)
same_tests false true there back = back refl
same_tests false false there back = refl

and_both : (a b : Bool) → a ≡ true → b ≡ true → (a && b) ≡ true
and_both a b one two = rw (one, two)

-- a number is another where both of its parts are
pub by_parts : (n n' high low high' low' : ℕ) → (n ≡ n' → high ≡ high') → (n ≡ n' → low ≡ low')
    → (high ≡ high' → low ≡ low' → n ≡ n') → eqb n n' ≡ (eqb high high' && eqb low low')
by_parts n n' high low high' low' one two back =
    same_tests (eqb n n') (eqb high high' && eqb low low')
    (λ e. and_both (eqb high high') (eqb low low') (eq-eqb high high' (one (eqb-true n n' e)))
    (eq-eqb low low' (two (eqb-true n n' e))))
    (λ e. eq-eqb n n'
    (back (eqb-true high high' (and_left (eqb high high') (eqb low low') e))
    (eqb-true low low' (and_right (eqb high high') (eqb low low') e))))

eight_digits : (high low high' low' : ℕ) → low < 8 → low' < 8
    → eqb (high * 8 + low) (high' * 8 + low') ≡ (eqb high high' && eqb low low')
eight_digits high low high' low' few few' =
    by_parts (high * 8 + low) (high' * 8 + low') high low high' low'
    (λ sum. omega arith) (λ sum. omega arith) (λ one two. omega arith)

four_digits : (high low high' low' : ℕ) → low < 4 → low' < 4
    → eqb (high * 4 + low) (high' * 4 + low') ≡ (eqb high high' && eqb low low')
four_digits high low high' low' few few' =
    by_parts (high * 4 + low) (high' * 4 + low') high low high' low'
    (λ sum. omega arith) (λ sum. omega arith) (λ one two. omega arith)

two_digits : (high low high' low' : ℕ) → low < 2 → low' < 2
    → eqb (high * 2 + low) (high' * 2 + low') ≡ (eqb high high' && eqb low low')
two_digits high low high' low' few few' =
    by_parts (high * 2 + low) (high' * 2 + low') high low high' low'
    (λ sum. omega arith) (λ sum. omega arith) (λ one two. omega arith)

-- bits are the same where both are set or both are not
bits_same : (a b : ℕ) → a < 2 → b < 2 → eqb a b ≡ beq (eqb b 1) (eqb a 1)
bits_same a b few few' = by (eqb b 1) (eqb a 1) refl refl
  where
    by : (s t : Bool) → eqb b 1 ≡ s → eqb a 1 ≡ t → eqb a b ≡ beq s t
    by true true e f = eq-eqb a b (omega (arith, eqb-true b 1 e, eqb-true a 1 f))
    by true false e f = ne_eqb a b (λ same. eqb-false a 1 f (same ∙ eqb-true b 1 e))
    by false true e f = ne_eqb a b (λ same. eqb-false b 1 e (sym same ∙ eqb-true a 1 f))
    by false false e f = eq-eqb a b (zeros (eqb-false b 1 e) (eqb-false a 1 f))
      where
        zeros : (b ≡ 1 → ⊥) → (a ≡ 1 → ⊥) → a ≡ b
        zeros one two = omega arith

-- a number's three lowest bits, and those of a half and of a quarter
pub low_three : (n half quarter : ℕ) → half ≡ n / 2 → quarter ≡ half / 2
    → n % 8 ≡ (quarter % 2) * 4 + ((half % 2) * 2 + n % 2)
low_three n half quarter h q = omega arith

-- three bits of v from 10 down, and three of s from 40 down
three_bits : (v s : ℕ)
    → eqb (v / 4 % 8) (s / 16 % 8)
    ≡ (beq (eqb (s / 64 % 2) 1) (eqb (v / 16 % 2) 1)
    && (beq (eqb (s / 32 % 2) 1) (eqb (v / 8 % 2) 1) && beq (eqb (s / 16 % 2) 1) (eqb (v / 4 % 2) 1)))
three_bits v s =
    ap₂ eqb (low_three (v / 4) (v / 8) (v / 16) (omega arith) (omega arith))
    (low_three (s / 16) (s / 32) (s / 64) (omega arith) (omega arith))
    ∙ four_digits (v / 16 % 2) ((v / 8 % 2) * 2 + v / 4 % 2) (s / 64 % 2) ((s / 32 % 2) * 2 + s / 16 % 2) (omega arith)
    (omega arith)
    ∙ ap₂ ◌&&◌ (bits_same (v / 16 % 2) (s / 64 % 2) (omega arith) (omega arith))
    (two_digits (v / 8 % 2) (v / 4 % 2) (s / 32 % 2) (s / 16 % 2) (omega arith) (omega arith)
    ∙ ap₂ ◌&&◌ (bits_same (v / 8 % 2) (s / 32 % 2) (omega arith) (omega arith))
    (bits_same (v / 4 % 2) (s / 16 % 2) (omega arith) (omega arith)))

six_bits : (v b s : ℕ)
    → eqb (v / 4 % 64) ((b / 32 % 8) * 8 + s / 16 % 8)
    ≡ (eqb (v / 32 % 8) (b / 32 % 8) && eqb (v / 4 % 8) (s / 16 % 8))
six_bits v b s =
    let parts : v / 4 % 64 ≡ (v / 32 % 8) * 8 + v / 4 % 8 = omega arith in
    ap (λ (n : ℕ). eqb n ((b / 32 % 8) * 8 + s / 16 % 8)) parts
    ∙ eight_digits (v / 32 % 8) (v / 4 % 8) (b / 32 % 8) (s / 16 % 8) (omega arith) (omega arith)

pub flags_made : (p : List ℕ) (v : ℕ)
    → asks ServicesFlags (flags_wanted p) v
    ≡ (eqb (under xe0 v) (under xe0 (byte p 4))
    && same_flags (list_of (services_part p (services_at p))) (flags_of v))
unfolding same_flags list_of
flags_made p v =
    rw (byte_one p (services_at p))
    (six_bits v (byte p 4) (byte p (services_at p + 1))
    ∙ ap (λ (t : Bool). eqb (v / 32 % 8) (byte p 4 / 32 % 8) && t) (three_bits v (byte p (services_at p + 1))))
