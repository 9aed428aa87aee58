-- Rule 3: the eight rates, by the ids 1 to 8 that the upper half of byte 3 names.
use Rattle.std.specs.Prelude.{ℕ, Bool, false, cond, ◌&&◌, List, [], ◌∷◌, ◌==◌, Option, Some, None}
use Rattle.values.specs.declared.framerate.Framerate.{Framerate}

-- id, numerator, denominator
abbrev pub row : ℕ → ℕ → ℕ → Framerate
row id numer denom = record { id = id; numer = numer; denom = denom }

-- the table
abbrev pub rates : List Framerate
rates =
    row 1 24000 1001 ∷ row 2 24 1 ∷ row 3 25 1 ∷ row 4 30000 1001 ∷ row 5 30 1 ∷ row 6 50 1 ∷ row 7 60000 1001
    ∷ row 8 60 1 ∷ []

-- the first row with the id, none where no row has it
abbrev pub find : ℕ → List Framerate → Option Framerate
find id [] = None
find id (r ∷ rs) = cond (id == r.id) (Some r) (find id rs)

unfoldable pub from_id : ℕ → Option Framerate
from_id id = find id rates

-- Writing: one of the eight, that is, its id names a row and both numbers are the row's
abbrev pub same_numbers : Framerate → Option Framerate → Bool
same_numbers a None = false
same_numbers a (Some r) = r.numer == a.numer && r.denom == a.denom

abbrev pub known : Framerate → Bool
known a = same_numbers a (from_id a.id)
