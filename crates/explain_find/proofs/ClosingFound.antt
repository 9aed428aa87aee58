-- The walk over the future sections, turn by turn: what the definition gives where the packet ends in one, or in its footer.
-- Assumes nothing.
use mathlib.Core.List.{List}
use mathlib.Core.Path.{◌≡◌, ◌∙◌, refl}
use Prim.Native.Nat.{ℕ, zero, suc, ◌+◌, ◌-◌, ◌≤◌, ◌<◌}
use native.Mathlib.Omega.{arith}
use borrow.Author.Tests.{eq-eqb, le-ltb, lt-ltb, ne_eqb}
use lib.ListN.{length}
use Rattle.basis.specs.Bytes.{byte}
use Rattle.basis.specs.declared.test.SizeTest.TheVariants.{FooterWhole, FutureNext, FutureWhole}
use Rattle.explain_find.specs.Code.{closing_test}

-- a place that the walk comes to
pub record Come (p : List ℕ) (from i : ℕ) : Type 0 where
  pub turns : ℕ
  pub inside : i + 2 ≤ length p
  pub enough : length p ≤ turns + i
  pub left : closing_test turns p i ≡ closing_test (length p) p from

module _ (p : List ℕ) (from : ℕ) where
  pub sets_out : from + 2 ≤ length p → Come p from from
  sets_out a = record { turns = length p; inside = a; enough = omega arith; left = refl }

  module _ (i : ℕ) where
    at_footer : (turns : ℕ) → byte p i ≡ 0x74 → FooterWhole ≡ closing_test turns p i
    at_footer zero id = refl
    at_footer (suc turns) id = simp (eq-eqb _ _ id)

    module _ (other : byte p i ≡ 0x74 → ⊥) where
      in_future : (turns : ℕ) → 0 < turns → length p < i + 1 + byte p (i + 1) → FutureWhole ≡ closing_test turns p i
      in_future zero h a = absurd (omega arith)
      in_future (suc turns) h a = simp (ne_eqb _ _ other, lt-ltb _ _ a)

      module _ (fits : i + 1 + byte p (i + 1) ≤ length p) where
        behind_future : (turns : ℕ) → 0 < turns → length p < i + 2 + byte p (i + 1) + 2 → FutureNext ≡ closing_test turns p i
        behind_future zero h a = absurd (omega arith)
        behind_future (suc turns) h a = simp (ne_eqb _ _ other, le-ltb _ _ fits, lt-ltb _ _ a)

        one_on : (turns : ℕ) → 0 < turns → i + 2 + byte p (i + 1) + 2 ≤ length p
            → closing_test (turns - 1) p (i + 2 + byte p (i + 1)) ≡ closing_test turns p i
        one_on zero h a = absurd (omega arith)
        one_on (suc turns) h a =
            let e : suc turns - 1 ≡ turns = omega arith in
            rw e (simp (ne_eqb _ _ other, le-ltb _ _ fits, le-ltb _ _ a))

    module _ (r : Come p from i) where
      pub ends_in_footer : byte p i ≡ 0x74 → FooterWhole ≡ closing_test (length p) p from
      ends_in_footer id = at_footer r.turns id ∙ r.left

      module _ (other : byte p i ≡ 0x74 → ⊥) where
        pub ends_in_future : length p < i + 1 + byte p (i + 1) → FutureWhole ≡ closing_test (length p) p from
        ends_in_future a = in_future other r.turns (omega arith) a ∙ r.left

        module _ (fits : i + 1 + byte p (i + 1) ≤ length p) where
          pub ends_behind : length p < i + 2 + byte p (i + 1) + 2 → FutureNext ≡ closing_test (length p) p from
          ends_behind a = behind_future other fits r.turns (omega arith) a ∙ r.left

          pub comes_on : i + 2 + byte p (i + 1) + 2 ≤ length p → Come p from (i + 2 + byte p (i + 1))
          comes_on a =
              record {
                turns = r.turns - 1;
                inside = a;
                enough = omega arith;
                left = one_on other fits r.turns (omega arith) a ∙ r.left;
              }
