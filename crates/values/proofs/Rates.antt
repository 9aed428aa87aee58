-- Rule 3's table: ids 1 to 8 are its rows, and no other id is in it.
-- Assumes nothing.
use Rattle.std.proofs.Common.{◌≡◌, ℕ, true, eqb, refl, eq-eqb, ne_eqb}
use mathlib.Core.Bool.{Bool, true, false, cond, ◌&&◌}
use mathlib.Core.List.{List, [], ◌∷◌}
use mathlib.Core.Path.{sym}
use borrow.Author.Tests.{eqb-true}
use Rattle.std.specs.Prelude.{Option, Some, None, ◌==◌}
use Rattle.std.specs.Option.{option_eq}
use Rattle.values.specs.Rate.{find, from_id, known, rates, row, same_numbers}
use Rattle.values.specs.declared.framerate.Framerate.{Framerate}

abbrev pub Row : ℕ → ℕ → ℕ → Type 0
Row id numer denom = Some (row id numer denom) ≡ from_id id

-- the eight rows
pub rows : Row 1 24000 1001 × Row 2 24 1 × Row 3 25 1 × Row 4 30000 1001
    × Row 5 30 1 × Row 6 50 1 × Row 7 60000 1001 × Row 8 60 1
unfolding from_id
rows = (refl, refl, refl, refl, refl, refl, refl, refl)

-- an id that none of the eight is
pub no_row : (id : ℕ) → (id ≡ 1 → ⊥) → (id ≡ 2 → ⊥) → (id ≡ 3 → ⊥) → (id ≡ 4 → ⊥) → (id ≡ 5 → ⊥) → (id ≡ 6 → ⊥)
    → (id ≡ 7 → ⊥) → (id ≡ 8 → ⊥)
    → None ≡ from_id id
unfolding from_id
no_row id h1 h2 h3 h4 h5 h6 h7 h8 =
    simp (
      ne_eqb id 1 h1,
      ne_eqb id 2 h2,
      ne_eqb id 3 h3,
      ne_eqb id 4 h4,
      ne_eqb id 5 h5,
      ne_eqb id 6 h6,
      ne_eqb id 7 h7,
      ne_eqb id 8 h8,
    )

-- where the id names a rate with the same numerator, the denominator decides
pub by_denominator : (a found : Framerate) → Some found ≡ from_id a.id → found.numer ≡ a.numer
    → eqb found.denom a.denom ≡ known a
by_denominator a found e q = rw (← e, eq-eqb _ _ q)

-- a row that is found has the id, so that a rate that is this row is known, and no other
abbrev pub same_rate : Framerate → Framerate → Bool
same_rate r a = r.id == a.id && (r.numer == a.numer && r.denom == a.denom)

found_so : (a r : Framerate) (found : Option Framerate) (same : Bool) → (a.id == r.id) ≡ same
    → option_eq same_rate found (Some a) ≡ same_numbers a found
    → option_eq same_rate (cond same (Some r) found) (Some a) ≡ same_numbers a (cond same (Some r) found)
found_so a r found true e h = rw (sym (eqb-true a.id r.id e)) (simp (eq-eqb a.id a.id refl))
found_so a r found false e h = h

found : (a : Framerate) (rs : List Framerate) → option_eq same_rate (find a.id rs) (Some a) ≡ same_numbers a (find a.id rs)
found a [] = refl
found a (r ∷ rs) = found_so a r (find a.id rs) (a.id == r.id) refl (found a rs)

pub is_row : (a : Framerate) → option_eq same_rate (from_id a.id) (Some a) ≡ known a
unfolding from_id
is_row a = found a rates
