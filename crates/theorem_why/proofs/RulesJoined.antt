-- The rules' lists, one after the other, are all checks of a packet; and what the whole comes to says what each list does.
-- Assumes nothing.
use mathlib.Core.List.{List, [], ◌∷◌}
use mathlib.Core.Path.{◌≡◌, ◌∙◌, sym, refl, ap}
use Prim.Native.Nat.{ℕ, zero, suc, ◌+◌, ◌<◌}
use native.Mathlib.Nat.{add-zero}
use native.Mathlib.Omega.{arith}
use lib.ListN.{get_or, length}
use Rattle.basis.proofs.Holds.{Holds, held}
use Rattle.basis.proofs.Verdicts.{and_then, append_first, append_second, verdict_append}
use Rattle.basis.specs.Check.{Check, Rule, Verdict, broken, clear, verdict}
use Rattle.read_closing.specs.Closing.{closing_checks}
use Rattle.read_packet.specs.Packet.{packet_checks}
use Rattle.theorem_why.specs.Rules.{one_by_one, rules_in_order}

pub rules_joined : (p : List ℕ) → packet_checks p ≡ one_by_one (rules_in_order p)
unfolding packet_checks closing_checks
rules_joined p = refl

-- all are clear where the whole is
pub each_clear : (lists : List (List Check)) → verdict (one_by_one lists) ≡ clear → (k : ℕ) → verdict (get_or lists k []) ≡ clear
each_clear [] h k = refl
each_clear (cs ∷ lists) h zero = append_first cs (one_by_one lists) h
each_clear (cs ∷ lists) h (suc k) = each_clear lists (append_second cs (one_by_one lists) h) k

-- and the whole is clear where all are
pub all_clear : (lists : List (List Check)) → ((k : ℕ) → k < length lists → verdict (get_or lists k []) ≡ clear)
    → verdict (one_by_one lists) ≡ clear
all_clear [] each = refl
all_clear (cs ∷ lists) each =
    verdict_append cs (one_by_one lists)
    ∙ ap (λ (v : Verdict). and_then v (verdict (one_by_one lists))) (each 0 (omega arith))
    ∙ all_clear lists (λ k low. each (suc k) (omega (arith, low)))

-- lists whose tests have their list's number, the first this one
pub data Numbered (number : Rule → ℕ) : ℕ → List (List Check) → Type 0 where
  no_more : {n : ℕ} → Numbered number n []
  then : {n : ℕ} {cs : List Check} {lists : List (List Check)} → Holds (λ (rule : Rule). number rule ≡ n) cs
      → Numbered number (suc n) lists → Numbered number n (cs ∷ lists)

-- where the whole is broken, a list is, and those before it are clear; its number is the broken rule's
pub record FirstIn (number : Rule → ℕ) (n : ℕ) (lists : List (List Check)) (rule : Rule) : Type 0 where
  pub turn : ℕ
  pub its : number rule ≡ n + turn
  pub here : verdict (get_or lists turn []) ≡ broken rule
  pub before : (k : ℕ) → k < turn → verdict (get_or lists k []) ≡ clear

module _ (number : Rule → ℕ) (rule : Rule) where
  same_rule : (other : Rule) → broken other ≡ broken rule → other ≡ rule
  same_rule other h = cc

  found : (n : ℕ) (cs : List Check) (lists : List (List Check)) (v : Verdict) → verdict cs ≡ v
      → held (λ (r : Rule). number r ≡ n) v → and_then v (verdict (one_by_one lists)) ≡ broken rule
      → (verdict (one_by_one lists) ≡ broken rule → FirstIn number (suc n) lists rule)
      → FirstIn number n (cs ∷ lists) rule
  found n cs lists clear is k h later =
      let rest : FirstIn number (suc n) lists rule = later h in
      record {
        turn = suc rest.turn;
        its = rest.its ∙ omega arith;
        here = rest.here;
        before = before rest.turn rest.before;
      }
    where
      before : (turn : ℕ) → ((k : ℕ) → k < turn → verdict (get_or lists k []) ≡ clear)
          → (k : ℕ) → k < suc turn → verdict (get_or (cs ∷ lists) k []) ≡ clear
      before turn b zero low = is
      before turn b (suc k) low = b k (omega (arith, low))
  found n cs lists (broken other) is k h later =
      let same : other ≡ rule = same_rule other h in
      record {
        turn = 0;
        its = ap number (sym same) ∙ k ∙ sym (add-zero n);
        here = is ∙ h;
        before = λ k low. absurd (none_below k low);
      }
    where
      none_below : (k : ℕ) → k < 0 → ⊥
      none_below k low = omega arith

  pub first_list : (n : ℕ) (lists : List (List Check)) → Numbered number n lists → verdict (one_by_one lists) ≡ broken rule
      → FirstIn number n lists rule
  first_list n [] no_more h = absurd (never h)
    where
      never : ◌≡◌ {A = Verdict} clear (broken rule) → ⊥
      never e = let z : ◌≡◌ {A = ℕ} 0 1 = cc in omega arith
  first_list n (cs ∷ lists) (then own all) h =
      found n cs lists (verdict cs) refl own.it (sym (verdict_append cs (one_by_one lists)) ∙ h)
      (λ rest. first_list (suc n) lists all rest)
