-- A list that is made from its places: none, one more, and how long it is.
-- Assumes nothing.
use mathlib.Core.List.{[], ◌∷◌, ◌++◌}
use mathlib.Core.Path.{◌≡◌, refl}
use Prim.Native.Nat.{ℕ, zero, suc, ◌+◌}
use native.Mathlib.Numerals.{add-one}
use native.Mathlib.Omega.{arith}
use lib.ListN.{length, length-append}
use Rattle.basis.specs.Made.{made}

module _ {A : Type 0} (f : ℕ → A) where
  pub made_none : made f 0 ≡ []
  unfolding made
  made_none = refl

  pub made_more : (n : ℕ) → made f n ++ f n ∷ [] ≡ made f (n + 1)
  unfolding made
  made_more n = rw (add-one n)

  pub length_made : (n : ℕ) → length (made f n) ≡ n
  unfolding made
  length_made zero = refl
  length_made (suc n) = simp (length-append, length_made n) (omega arith)
