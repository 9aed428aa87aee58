-- What holds of the rule that a list of checks breaks first, if it breaks one; and so where its place stands in the input.
-- Assumes nothing.
use mathlib.Core.Bool.{Bool, true, false, cond, ◌&&◌, false≢true}
use mathlib.Core.List.{List, [], ◌∷◌, ◌++◌}
use mathlib.Core.Path.{◌≡◌, refl}
use Prim.Native.Nat.{ℕ, ◌+◌, ◌≤◌, ◌<◌}
use native.Mathlib.Omega.{arith}
use borrow.Author.Tests.{eq-eqb, eqb-true, leb-true, lt-ltb, ltb-true, ne_eqb}
use lib.Dec.{eqb, leb, ltb}
use lib.ListN.{length}
use Rattle.basis.proofs.Bools.{and_left}
use Rattle.basis.proofs.Verdicts.{and_then, moved_verdict, verdict_append, verdict_moved}
use Rattle.basis.specs.Answer.{refused}
use Rattle.basis.specs.declared.test.SizeTest.{SizeTest}
use Rattle.basis.specs.Check.{
  Check,
  CheckOf,
  Rule,
  RuleAt,
  Verdict,
  VerdictOf,
  answer,
  broken,
  clear,
  moved,
  moved_rule,
  place_of,
  size_check,
  verdict,
  when,
}

abbrev pub held : {P : Type 0} → (RuleAt P → Type 0) → VerdictOf P → Type 0
held good clear = Unit
held good (broken rule) = good rule

pub record Holds {P : Type 0} (good : RuleAt P → Type 0) (cs : List (CheckOf P)) : Type 0 where
  pub it : held good (verdict cs)

-- what is said by a test of the rule
abbrev pub So : {P : Type 0} → (RuleAt P → Bool) → RuleAt P → Type 0
So good rule = good rule ≡ true

-- The law: it holds of each check that is broken, those before it kept.
first_broken : {P : Type 0} (good : RuleAt P → Type 0) (kept : Bool) (rule : RuleAt P) (v : VerdictOf P)
    → (kept ≡ false → good rule) → (kept ≡ true → held good v) → held good (cond kept v (broken rule))
first_broken good true rule v here behind = behind refl
first_broken good false rule v here behind = here refl

one_by_one : {P : Type 0} (good : RuleAt P → Type 0) (v w : VerdictOf P) → held good v → (v ≡ clear → held good w)
    → held good (and_then v w)
one_by_one good clear w a b = b refl
one_by_one good (broken rule) w a b = a

module _ {P : Type 0} {good : RuleAt P → Type 0} where
  pub none : Holds good []
  none = record { it = tt }

  pub also : {c : CheckOf P} {cs : List (CheckOf P)} → (c.kept ≡ false → good c.rule)
      → (c.kept ≡ true → Holds good cs) → Holds good (c ∷ cs)
  also {c} {cs} here later =
      record { it = first_broken good c.kept c.rule (verdict cs) here (λ k. (later k).it) }

  -- a check of which it holds, broken or not
  pub fixed : {c : CheckOf P} {cs : List (CheckOf P)} → good c.rule → Holds good cs → Holds good (c ∷ cs)
  fixed here later = also (λ _. here) (λ _. later)

  -- of what stands behind other checks, where these are kept
  pub behind : (xs ys : List (CheckOf P)) → Holds good xs → (verdict xs ≡ clear → Holds good ys) → Holds good (xs ++ ys)
  behind xs ys a b =
      record { it = rw (verdict_append xs ys) (one_by_one good (verdict xs) (verdict ys) a.it (λ k. (b k).it)) }

  pub both : (xs ys : List (CheckOf P)) → Holds good xs → Holds good ys → Holds good (xs ++ ys)
  both xs ys a b = behind xs ys a (λ _. b)

  pub if_there : (present : Bool) {cs : List (CheckOf P)} → (present ≡ true → Holds good cs) → Holds good (when present cs)
  if_there true a = a refl
  if_there false a = none

  pub where_there : (present : Bool) {cs : List (CheckOf P)} → Holds good cs → Holds good (when present cs)
  where_there present a = if_there present (λ _. a)

  pub unless_found : (found : Bool) {cs : List (CheckOf P)} → Holds good cs → Holds good (cond found [] cs)
  unless_found true a = none
  unless_found false a = a

-- what holds of a part's rule, and so of the rule where the part is moved to, holds of its checks there
pub where_moved : {good good' : Rule → Type 0} (from : ℕ) (cs : List Check)
    → ((rule : Rule) → good rule → good' (moved_rule from rule)) → Holds good cs → Holds good' (moved from cs)
where_moved {good} {good'} from cs step a = record { it = rw (verdict_moved from cs) (so (verdict cs) a.it) }
  where
    so : (v : Verdict) → held good v → held good' (moved_verdict from v)
    so clear h = tt
    so (broken rule) h = step rule h

-- A rule of reading answers one of 1 to 9. Beside 1, where it may be answered, its place is the size of the input; beside 2 to
-- 9 it is one of so many bytes.
abbrev pub placed_in : Bool → ℕ → Rule → Bool
placed_in may_be_one size rule =
    cond (eqb (refused rule.refusal).number 1) (may_be_one && eqb rule.at.place size)
    (leb (refused rule.refusal).number 9 && ltb rule.at.place size)

-- an input of so many bytes, which may be answered 1; and a part of so many, which may not
abbrev pub Inside : ℕ → List Check → Type 0
Inside size cs = Holds (So (placed_in true size)) cs

abbrev pub Within : ℕ → List Check → Type 0
Within size cs = Holds (So (placed_in false size)) cs

pub at_size : {test : SizeTest} (p : List ℕ) (least : ℕ) {cs : List Check} → (least ≤ length p → Inside (length p) cs)
    → Inside (length p) (size_check test p least ∷ cs)
at_size p least later = also (λ _. eq-eqb (length p) (length p) refl) (λ k. later (leb-true least (length p) k))

-- a part that answers no 1, moved to where it stands
moved_so : (may_be_one one few : Bool) (from place least size : ℕ) → from + least ≤ size
    → cond one false (few && ltb place least) ≡ true
    → cond one (may_be_one && eqb (from + place) size) (few && ltb (from + place) size) ≡ true
moved_so may_be_one true few from place least size fits h = absurd (false≢true h)
moved_so may_be_one false true from place least size fits h =
    let inner : place < least = ltb-true place least h in
    lt-ltb (from + place) size (omega arith)
moved_so may_be_one false false from place least size fits h = absurd (false≢true h)

pub part_inside : (may_be_one : Bool) (from least size : ℕ) (cs : List Check) → from + least ≤ size → Within least cs
    → Holds (So (placed_in may_be_one size)) (moved from cs)
part_inside may_be_one from least size cs fits a =
    where_moved from cs
    (λ rule h. let number : ℕ = (refused rule.refusal).number in
    moved_so may_be_one (eqb number 1) (leb number 9) from rule.at.place least size fits h) a

-- so a place is at most the size of the input
most_so : (may_be_one one few : Bool) (place size : ℕ) → cond one (may_be_one && eqb place size) (few && ltb place size) ≡ true
    → place ≤ size
most_so true true few place size h = omega (arith, eqb-true place size h)
most_so false true few place size h = absurd (false≢true h)
most_so may_be_one false true place size h = omega (arith, ltb-true place size h)
most_so may_be_one false false place size h = absurd (false≢true h)

pub place_most : (may_be_one : Bool) (size : ℕ) (v : Verdict) → held (So (placed_in may_be_one size)) v → place_of v ≤ size
place_most may_be_one size clear h = omega arith
place_most may_be_one size (broken rule) h =
    let number : ℕ = (refused rule.refusal).number in
    most_so may_be_one (eqb number 1) (leb number 9) rule.at.place size h

-- and no rule of reading answers 11
eleven_so : (n : ℕ) (one rest_of_one fits : Bool) → eqb n 1 ≡ one → cond one rest_of_one (leb n 9 && fits) ≡ true
    → eqb n 11 ≡ false
eleven_so n true a fits e h = ne_eqb n 11 (λ k. omega (arith, eqb-true n 1 e))
eleven_so n false a fits e h = ne_eqb n 11 (λ k. omega (arith, leb-true n 9 (and_left (leb n 9) fits h)))

pub not_eleven : (may_be_one : Bool) (size : ℕ) (v : Verdict) (length : ℕ) → held (So (placed_in may_be_one size)) v
    → eqb (answer v length).number 11 ≡ false
not_eleven may_be_one size clear length h = refl
not_eleven may_be_one size (broken rule) length h =
    let number : ℕ = (refused rule.refusal).number in
    eleven_so number (eqb number 1) (may_be_one && eqb rule.at.place size) (ltb rule.at.place size) refl h
