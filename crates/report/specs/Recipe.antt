-- What the entries of made sections name.
use Rattle.std.specs.Prelude.{Bool, cond, List, [], ◌∷◌, ℕ, ◌+◌, ◌*◌, ◌%◌}

-- the number of digital service k
abbrev pub digital_number : ℕ → ℕ
digital_number k = (k % 16 * 17 + 5) % 63 + 1

-- the header byte and byte 3 of entry k: fields 1 and 2 in turn, or the number above 80 and C0
unfoldable pub names : Bool → ℕ → ℕ → List ℕ
names field turn k =
    cond field (0x80 ∷ (0x7E + turn % 2) ∷ []) ((0x80 + digital_number k) ∷ (0xC0 + digital_number k) ∷ [])
