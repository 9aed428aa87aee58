-- The recipe of a number, by which it is.
-- Assumes nothing.
use Rattle.std.proofs.Common.{◌≡◌, ℕ, suc, ◌≤◌, get_or, sym, arith}
use lib.ListN.{get_or-eq_default}
use Rattle.sweep_reader.specs.Recipes.{last_row, recipe_of, recipes}

pub row_at : (number n : ℕ) → number ≡ n → get_or recipes n last_row ≡ recipe_of number
unfolding recipe_of
row_at number n e = rw e

pub row_last : (number : ℕ) → 10 ≤ number → last_row ≡ recipe_of number
unfolding recipe_of
row_last number h = sym (get_or-eq_default recipes last_row h)

-- a number that is none of those up to n is over it
pub over_first : (number : ℕ) → (number ≡ 0 → ⊥) → 1 ≤ number
over_first number h = omega arith

pub over_next : (number n : ℕ) → n ≤ number → (number ≡ n → ⊥) → suc n ≤ number
over_next number n h i = omega arith
