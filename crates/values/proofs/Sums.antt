-- Sums of bytes: one byte more, two runs one after the other, and the negative.
-- Assumes nothing.
use Rattle.std.proofs.Common.{◌≡◌, ℕ, ◌+◌, ◌%◌, ◌<◌, List, [], ◌∷◌, ◌++◌, length, get_or, take, add-one, arith, take-suc}
use Rattle.values.specs.Checksum.{total, negative}

pub total_append : (xs ys : List ℕ) → total (xs ++ ys) ≡ total xs + total ys
total_append [] ys = omega arith
total_append (x ∷ xs) ys = omega (arith, total_append xs ys)

pub total_take : (xs : List ℕ) (k : ℕ) → k < length xs → total (take (k + 1) xs) ≡ total (take k xs) + get_or xs k 0
total_take xs k h = rw (add-one, take-suc xs k 0, total_append) (omega arith)

-- what negative means: with it the sum is 0 modulo 256
pub negative_cancels : (n : ℕ) → (n + negative n) % 256 ≡ 0
negative_cancels n = omega arith
