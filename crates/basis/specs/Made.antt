-- Lists that are made from their places.
use Rattle.std.specs.Prelude.{List, [], ◌∷◌, ◌++◌, ℕ, zero, suc}

-- so many: f of 0, of 1, and so on
unfoldable pub made : {A : Type 0} → (ℕ → A) → ℕ → List A
made f zero = []
made f (suc n) = made f n ++ f n ∷ []
