-- Rule 9: the checksum is the negative, modulo 256, of a sum of bytes.
use Rattle.std.specs.Prelude.{ℕ, ◌+◌, ◌-◌, ◌%◌, List, [], ◌∷◌}

-- the sum, which nothing wraps
abbrev pub total : List ℕ → ℕ
total [] = 0
total (x ∷ xs) = x + total xs

-- what is added to n to give 0 modulo 256
abbrev pub negative : ℕ → ℕ
negative n = (256 - n % 256) % 256
