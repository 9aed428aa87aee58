-- Rule 4: the sequence, two bytes, high byte first.
use Rattle.std.specs.Prelude.{ℕ, ◌+◌, ◌*◌, ◌/◌, ◌%◌, List, [], ◌∷◌}

abbrev pub sequence_of : ℕ → ℕ → ℕ
sequence_of high low = high * 256 + low

-- Writing: the same two bytes
abbrev pub sequence_bytes : ℕ → List ℕ
sequence_bytes n = n / 256 ∷ n % 256 ∷ []
