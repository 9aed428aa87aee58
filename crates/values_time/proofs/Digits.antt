-- Tens and units, over the number of tens bits: what reading asks, and that reading takes back what writing made.
-- Assumes nothing.
use mathlib.Core.Path.{◌≡◌, ◌∙◌}
use Prim.Native.Nat.{ℕ, ◌+◌, ◌*◌, ◌/◌, ◌%◌, ◌^◌, ◌≤◌, ◌<◌}
use native.Mathlib.Nat.{one-mul, mod-lt, lt_of_lt_of_le}
use native.Mathlib.Omega.{arith}
use lib.Arith.{digits_div, digits_mod}
use lib.Dec.{lit<}
use lib.Pow.{pow_pos, pow_mono, shl_exact}
use Rattle.values_time.specs.Time.{digits, digit_bits}

-- the shift by the number of tens bits gives the number of tens
pub span : (tens_bits : ℕ) → tens_bits ≤ 3 → 1 * 2 ^ tens_bits % 256 ≡ 2 ^ tens_bits
span tens_bits h = shl_exact 1 tens_bits 8 (lit< tt) (omega arith) ∙ one-mul (2 ^ tens_bits)

-- up to three tens bits make tens up to 7, so that ten times the tens plus the units fits a byte
pub tens_small : (tens_bits b : ℕ) → tens_bits ≤ 3 → b % 2 ^ tens_bits < 8
tens_small tens_bits b h = lt_of_lt_of_le (mod-lt b (pow_pos tens_bits)) (pow_mono h)

-- whatever stands above the tens: reading gives the value back that writing put there, and what stands above
module _ (tens_bits value above : ℕ) (h : value < 10 * 2 ^ tens_bits) where
  tens_back : (above * 2 ^ tens_bits + value / 10) % 2 ^ tens_bits ≡ value / 10
  tens_back = digits_mod above (omega arith)

  pub digits_back : digits tens_bits (above * 2 ^ tens_bits * 16 + digit_bits value) ≡ value
  unfolding digits
  digits_back =
      let e : (above * 2 ^ tens_bits * 16 + digit_bits value) / 16 ≡ above * 2 ^ tens_bits + value / 10 = omega arith in
      rw (e, tens_back) (omega arith)

  pub above_back : (above * (2 ^ tens_bits * 16) + digit_bits value) / (2 ^ tens_bits * 16) ≡ above
  above_back = digits_div above (omega arith)
