-- Every check of a list: of lists one after the other, of a part that may be there; and of the check that is broken first.
-- Assumes nothing.
use mathlib.Core.Bool.{Bool, true, false, cond}
use mathlib.Core.List.{List, ◌++◌}
use mathlib.Core.Path.{◌≡◌, refl}
use Rattle.basis.specs.Check.{Check, Rule, Verdict, broken, verdict, when}
use Rattle.theorem_why.specs.AsTable.{Every, also_of, no_check}
use Rattle.theorem_why.proofs.SectionTests.{clash}

module _ {good : Check → Type 0} where
  pub every_both : {xs ys : List Check} → Every good xs → Every good ys → Every good (xs ++ ys)
  every_both no_check b = b
  every_both (also_of h a) b = also_of h (every_both a b)

  pub every_there : (present : Bool) {cs : List Check} → Every good cs → Every good (when present cs)
  every_there true a = a
  every_there false a = no_check

-- the check that is broken first is one of them
pub record FirstBroken (good : Check → Type 0) (rule : Rule) : Type 0 where
  pub check : Check
  pub its : check.rule ≡ rule
  pub fails : check.kept ≡ false
  pub is : good check

module _ {good : Check → Type 0} (rule : Rule) where
  this_one : (c : Check) (v : Verdict) → good c → (kept : Bool) → c.kept ≡ kept
      → cond kept v (broken c.rule) ≡ broken rule → (v ≡ broken rule → FirstBroken good rule) → FirstBroken good rule
  this_one c v is true e h later = later h
  this_one c v is false e h later = record { check = c; its = same h; fails = e; is = is }
    where
      same : broken c.rule ≡ broken rule → c.rule ≡ rule
      same k = cc

  pub first_broken : {cs : List Check} → Every good cs → verdict cs ≡ broken rule → FirstBroken good rule
  first_broken no_check h = absurd (clash (cc))
  first_broken (also_of {c = c} {cs = cs} is a) h =
      this_one c (verdict cs) is c.kept refl h (λ k. first_broken a k)
