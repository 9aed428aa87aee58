-- Sections that the reader takes, made from their count of entries.
use Rattle.std.specs.Prelude.{Bool, cond, List, [], ◌∷◌, ℕ, ◌+◌, ◌-◌, ◌*◌, ◌/◌, ◌%◌, eqb, ltb, get_or}
use Rattle.basis.specs.Bytes.{byte}
use Rattle.basis.specs.Made.{made}
use Rattle.report.specs.Recipe.{names}
use Rattle.values.specs.Layout.{services_id, section_length}

-- how many bytes the section of a count has
abbrev pub good_size : ℕ → ℕ
good_size count = section_length (count % 16)

-- byte 1: 80, three flags, the count
abbrev pub second_byte : ℕ → ℕ
second_byte count = 0x80 + count % 8 * 16 + count % 16

-- every fourth entry is a field
abbrev pub good_field : ℕ → Bool
good_field k = eqb (k % 4) 3

-- all have flags, which a field drops
abbrev pub good_flags : ℕ → ℕ
good_flags k = k % 2 * 0x80 + k % 3 % 2 * 0x40 + 0x3F

-- the bytes of entry k before its last, which is FF
abbrev pub entry_start : ℕ → List ℕ
entry_start k =
    let named = names (good_field k) (k / 4) k in
    byte named 0 ∷ (0x61 + k % 16) ∷ (0x71 + k % 16) ∷ (0x81 + k % 16) ∷ byte named 1 ∷ good_flags k ∷ []

unfoldable pub entry_byte : ℕ → ℕ → ℕ
entry_byte k place = get_or (entry_start k) place 0xFF

-- what stands at a place; behind the section, zeros
unfoldable pub good_byte : ℕ → ℕ → ℕ
good_byte count place =
    cond (eqb place 0) services_id
    (cond (eqb place 1) (second_byte count)
    (cond (ltb place (good_size count)) (entry_byte ((place - 2) / 7) ((place - 2) % 7)) 0))

-- the section and zeros behind it, so many bytes in all
abbrev pub good_bytes : ℕ → ℕ → List ℕ
good_bytes count n = made (good_byte count) n
