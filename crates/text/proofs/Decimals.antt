-- A number's digits: those that the toolchain's `decimal` gives, and how many there can be.
-- Assumes nothing.
use mathlib.Core.Bool.{Bool, true, false, cond}
use mathlib.Core.Path.{◌≡◌, ◌∙◌, refl, ap₂}
use mathlib.Core.List.{List, [], ◌∷◌, ◌++◌}
use Prim.Native.Nat.{ℕ, zero, suc, ◌*◌, ◌-◌, ◌/◌, ◌%◌, ◌^◌, ◌≤◌, ◌<◌}
use native.Mathlib.Nat.{one-le-pow, pow-le-pow_right, pow-succ'}
use native.Mathlib.Omega.{arith}
use borrow.Author.Tests.{le-ltb, lt-ltb, ltb-false, ltb-true}
use lib.Dec.{ltb}
use lib.ListN.{length, length-append}
use Rattle.io.specs.Digits.{last_digits, hex_digit_ascii, IsDigitCount}
use Rattle.text.specs.Digits.{decimal_in, decimal_text, digit_of}

-- the toolchain's digit, of a value below ten
glyph_is : (d : ℕ) → d < 10 → hex_digit_ascii d ≡ digit_of d
glyph_is zero h = refl
glyph_is (suc zero) h = refl
glyph_is (suc (suc zero)) h = refl
glyph_is (suc (suc (suc zero))) h = refl
glyph_is (suc (suc (suc (suc zero)))) h = refl
glyph_is (suc (suc (suc (suc (suc zero))))) h = refl
glyph_is (suc (suc (suc (suc (suc (suc zero)))))) h = refl
glyph_is (suc (suc (suc (suc (suc (suc (suc zero))))))) h = refl
glyph_is (suc (suc (suc (suc (suc (suc (suc (suc zero)))))))) h = refl
glyph_is (suc (suc (suc (suc (suc (suc (suc (suc (suc zero))))))))) h = refl
glyph_is (suc (suc (suc (suc (suc (suc (suc (suc (suc (suc d)))))))))) h = absurd (omega arith)

-- the fewest digits that hold a number are its digits with no zeros in front, where there is room for so many
spelled : (count places n : ℕ) → IsDigitCount 10 1 n count → count ≤ places → last_digits 10 count n ≡ decimal_in places n
spelled zero places n f h = absurd (omega arith)
spelled (suc count) zero n f h = absurd (omega arith)
spelled (suc zero) (suc places) n f h =
    let same : n % 10 ≡ n = omega arith in
    rw (lt-ltb n 10 (omega arith), same) (ap₂ (λ (d : ℕ) (xs : List ℕ). d ∷ xs) (glyph_is n (omega arith)) refl)
spelled (suc (suc count)) (suc places) n f h =
    let more : 10 ^ suc (suc count) ≡ 10 * 10 ^ suc count = pow-succ' 10 (suc count) in
    let less : 10 ^ suc count ≡ 10 * 10 ^ count = pow-succ' 10 count in
    let one : 1 ≤ 10 ^ count = one-le-pow count 10 (omega arith) in
    let front : suc (suc count) - 1 ≡ suc count = omega arith in
    let least : 10 ^ suc count ≤ n = rw front at (f.2 (omega arith)) in
    let rest : last_digits 10 (suc count) (n / 10) ≡ decimal_in places (n / 10) =
    spelled (suc count) places (n / 10) (
      omega arith,
      omega arith,
      λ (k : 1 < suc count).
          let back : suc count - 1 ≡ count = omega arith in
          rw back (omega arith),
    ) (omega arith) in
    rw (le-ltb n 10 (omega arith), rest, glyph_is (n % 10) (omega arith))

-- a number of 64 bits has twenty digits at most
few : (n count : ℕ) (over : Bool) → ltb 20 count ≡ over → IsDigitCount 10 1 n count → n < 2 ^ 64 → count ≤ 20
few n count false e f h = omega (arith, ltb-false 20 count e)
few n count true e f h =
    let many : 20 ≤ count - 1 = omega (arith, ltb-true 20 count e) in
    let large : 10 ^ 20 ≤ 10 ^ (count - 1) = pow-le-pow_right (omega arith) many in
    let least : 10 ^ (count - 1) ≤ n = f.2 (omega (arith, ltb-true 20 count e)) in
    absurd (omega arith)

-- the digits that are put are the number's
pub decimal_is : (n count : ℕ) (text : List ℕ) → n < 2 ^ 64 → IsDigitCount 10 1 n count → text ≡ last_digits 10 count n
    → text ≡ decimal_text n
unfolding decimal_text
decimal_is n count text h f e = e ∙ spelled count 20 n f (few n count (ltb 20 count) refl f h)

-- one digit, or one more than there are in front of it
one_more : (small : Bool) (d e k : ℕ) (front : List ℕ) → length front ≤ k
    → length (cond small (d ∷ []) (front ++ e ∷ [])) ≤ suc k
one_more true d e k front h = omega arith
one_more false d e k front h = simp length-append (omega arith)

-- no more digits than there are places
places_most : (places n : ℕ) → length (decimal_in places n) ≤ places
places_most zero n = omega arith
places_most (suc places) n =
    one_more (ltb n 10) (digit_of n) (digit_of (n % 10)) places (decimal_in places (n / 10)) (places_most places (n / 10))

-- a number below ten to the power of k has k digits at most
within : (places k n : ℕ) → n < 10 ^ suc k → length (decimal_in places n) ≤ suc k
within zero k n h = omega arith
within (suc places) zero n h = rw (lt-ltb n 10 h) (omega arith)
within (suc places) (suc k) n h =
    let more : 10 ^ suc (suc k) ≡ 10 * 10 ^ suc k = pow-succ' 10 (suc k) in
    one_more (ltb n 10) (digit_of n) (digit_of (n % 10)) (suc k) (decimal_in places (n / 10))
    (within places k (n / 10) (omega arith))

pub decimal_most : (n : ℕ) → length (decimal_text n) ≤ 20
unfolding decimal_text
decimal_most n = places_most 20 n

pub decimal_within : (k n : ℕ) → n < 10 ^ suc k → length (decimal_text n) ≤ suc k
unfolding decimal_text
decimal_within k n h = within 20 k n h
