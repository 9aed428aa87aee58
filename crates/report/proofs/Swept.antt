-- A digest that is fed again and again is the fold of its step over the numbers from 0 on.
-- Assumes nothing.
use Rattle.std.proofs.Common.{◌≡◌, ℕ, zero, suc, ◌+◌, List, [], ◌∷◌, ◌++◌, refl, ap, ◌∙◌, arith, fold}
use Rattle.std.proofs.iter.Yields.{nat_range_steps}
use Rattle.std.proofs.lemmas.Iterator.{YieldsList-from_range}
use Rattle.std.proofs.lemmas.Iterator.Consumers.{fold_from_yields_List}
use Rattle.std.proofs.lemmas.List.Sums.{fold-append}
use Rattle.std.specs.declared.ops.Range.{Range}
use Rattle.std.specs.Fn.{Called}
use Rattle.std.specs.Iterator.{Drains}
use Rattle.std.specs.List.{FoldsTo, range_with_len}
use Rattle.report.specs.Digest.{swept}
use denote.Param.Members.{Mut}

range_more : (a n : ℕ) → range_with_len a (suc n) ≡ range_with_len a n ++ (a + n) ∷ []
range_more a zero = ap (λ k. k ∷ []) (omega arith)
range_more a (suc n) =
    ap (λ (ks : List ℕ). a ∷ ks)
    (range_more (a + 1) n ∙ ap (λ k. range_with_len (a + 1) n ++ k ∷ []) (omega arith))

module _ (step : ℕ → ℕ → ℕ) where
  swept_folded : (n : ℕ) → fold step 0 (range_with_len 0 n) ≡ swept step n
  unfolding swept
  swept_folded zero = refl
  swept_folded (suc n) =
      ap (fold step 0) (range_more 0 n ∙ ap (λ k. range_with_len 0 n ++ k ∷ []) (omega arith))
      ∙ fold-append step 0 (range_with_len 0 n) (n ∷ [])
      ∙ ap (λ digest. step digest n) (swept_folded n)

  -- what `fold` gives over the numbers below n, by a closure that takes the step
  pub swept_ran : {F : Type 0} (g : Mut F (ℕ × (ℕ × Unit {0})) ℕ) {f : F} {s : Range ℕ} (n result : ℕ)
      → (xs : List ℕ) × (q : F) × Drains nat_range_steps s xs
      × FoldsTo {P = F × ℕ} (λ a x b. Called g a.0 (a.1, (x, tt)) b.1 b.0) (f, 0) xs (q, result)
      → s ≡ record { start = 0; end = n }
      → ((digest k fed : ℕ) (q : F) → Called g f (digest, (k, tt)) fed q → (q ≡ f) × (fed ≡ step digest k))
      → result ≡ swept step n
  swept_ran g n result ran e calls =
      fold_from_yields_List g step 0 result ran (YieldsList-from_range 0 n n e (omega arith)) calls ∙ swept_folded n
