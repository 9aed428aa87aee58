-- Lines one below the other: others behind them, none, and one more.
-- Assumes nothing.
use mathlib.Core.List.{List, [], ◌∷◌, ◌++◌, append_assoc, append-nil}
use mathlib.Core.Path.{◌≡◌, ◌∙◌, sym, refl, ap}
use Prim.Native.Nat.{ℕ, ◌+◌}
use Rattle.basis.proofs.Mades.{made_more, made_none}
use Rattle.basis.specs.Made.{made}
use Rattle.text.specs.Lines.{line_text, lines_text}

pub lines_append : (xs ys : List (List ℕ)) → lines_text xs ++ lines_text ys ≡ lines_text (xs ++ ys)
lines_append [] ys = refl
lines_append (x ∷ xs) ys =
    append_assoc (line_text x) (lines_text xs) (lines_text ys)
    ∙ ap (λ (text : List ℕ). line_text x ++ text) (lines_append xs ys)

module _ (line : ℕ → List ℕ) where
  pub each_none : lines_text (made line 0) ≡ []
  each_none = rw (made_none line)

  pub each_more : (k : ℕ) → lines_text (made line k) ++ line_text (line k) ≡ lines_text (made line (k + 1))
  each_more k =
      ap (λ (text : List ℕ). lines_text (made line k) ++ text) (sym (append-nil (line_text (line k))))
      ∙ lines_append (made line k) (line k ∷ [])
      ∙ ap lines_text (made_more line k)
