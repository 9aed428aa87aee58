-- An array that is made from the places of its bytes.
-- Assumes nothing.
use Rattle.std.proofs.Common.{◌≡◌, ℕ, zero, suc, ◌+◌, ◌<◌, List, [], ◌∷◌, ◌++◌, get_or, sym, subst, ap, ◌∙◌, arith, map}
use Rattle.std.proofs.lemmas.List.FromFn.{fill_by_all, map-range_with_len_more}
use Rattle.std.specs.Array.{IsFromFnResult, IsFromFnResultFrom}
use Rattle.std.specs.Fn.{Called}
use Rattle.std.specs.List.{range_with_len}
use Rattle.basis.proofs.Mades.{made_more, made_none}
use Rattle.basis.specs.Made.{made}
use denote.Param.Members.{Mut}
use native.Mathlib.Nat.{zero-add}
use native.Mathlib.Numerals.{add-one}

module _ (h : ℕ → ℕ) where
  made_mapped : (n : ℕ) → map h (range_with_len 0 n) ≡ made h n
  made_mapped zero = sym (made_none h)
  made_mapped (suc n) =
      ap (λ k. map h (range_with_len 0 k)) (sym (add-one n))
      ∙ map-range_with_len_more h 0 n n (omega arith)
      ∙ ap (λ bs. bs ++ h n ∷ []) (made_mapped n)
      ∙ made_more h n
      ∙ ap (made h) (add-one n)

  module _ {F : Type 0} (g : Mut F (ℕ × Unit {0}) ℕ) (f : F)
      (calls : (k b : ℕ) (q : F) → Called g f (k, tt) b q → (q ≡ f) × (b ≡ h k)) where
    byte_at : (bytes : List ℕ) (i n k : ℕ) → IsFromFnResultFrom g f bytes i n → k < n → get_or bytes (i + k) 0 ≡ h (i + k)
    byte_at bytes i zero k from l = absurd (omega arith)
    byte_at bytes i (suc n) zero from l =
        let e : i + 0 ≡ i = omega arith in
        ap (λ j. get_or bytes j 0) e ∙ from.2.1 0 ∙ (calls i from.1 from.0 from.3).1 ∙ ap h (sym e)
    byte_at bytes i (suc n) (suc k) from l =
        let e : i + suc k ≡ i + 1 + k = omega arith in
        let same = (calls i from.1 from.0 from.3).0 in
        ap (λ j. get_or bytes j 0) e
        ∙ byte_at bytes (i + 1) n k (subst (λ q. IsFromFnResultFrom g q bytes (i + 1) n) same from.4) (omega arith)
        ∙ ap h (sym e)

    pub filled : (bytes : List ℕ) (n : ℕ) → IsFromFnResult g f bytes n → bytes ≡ made h n
    filled bytes n from =
        fill_by_all h bytes n 0 from.long (λ k l. ap (λ j. get_or bytes j 0) (sym (zero-add k)) ∙ byte_at bytes 0 n k from.each l ∙ ap h (zero-add k)) ∙ made_mapped n
