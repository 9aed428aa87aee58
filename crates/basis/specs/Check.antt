-- The form in which the rules are stated: lists of checks, in the order in which the rules make them.
use Rattle.std.specs.Prelude.{Bool, cond, List, [], ◌∷◌, ℕ, ◌+◌, Option, Some, None, Result, Ok, Err, leb, length}
use Rattle.basis.specs.Answer.{done, refused}
use Rattle.basis.specs.declared.refusal.Refusal.{Refusal}
use Rattle.basis.specs.declared.refusal.Refusal.TheVariants.{BufferTooShort, LengthMismatch}
use Rattle.basis.specs.declared.answer.Answer.{Answer}
use Rattle.basis.specs.declared.refusal.Refused.{Refused}
use Rattle.basis.specs.declared.test.SizeTest.{SizeTest}
use Rattle.basis.specs.declared.test.Test.{Test}
use Rattle.basis.specs.declared.test.Test.TheVariants.{Size}

-- one rule: what is answered where it is broken, and what stands beside that
pub record RuleAt (P : Type 0) : Type 0 where
  pub refusal : Refusal
  pub at : P

-- a rule, and whether it is kept
pub record CheckOf (P : Type 0) : Type 0 where
  pub kept : Bool
  pub rule : RuleAt P

-- what is read has a numbered test, and the place of the byte that it looks at, counted from the input's first byte
pub record TestAt : Type 0 where
  pub test : Test
  pub place : ℕ

abbrev pub Rule : Type 0
Rule = RuleAt TestAt

abbrev pub Check : Type 0
Check = CheckOf TestAt

abbrev pub rule_at : ℕ → Test → Refusal → Rule
rule_at place test refusal = record { refusal = refusal; at = record { test = test; place = place } }

abbrev pub check_at : ℕ → Test → Bool → Refusal → Check
check_at place test kept refusal = record { kept = kept; rule = rule_at place test refusal }

-- what is written, and a call on a list, has neither
pub data Nowhere : Type 0 where
  no_place : Nowhere

abbrev pub WriteCheck : Type 0
WriteCheck = CheckOf Nowhere

abbrev pub unplaced : Refusal → RuleAt Nowhere
unplaced refusal = record { refusal = refusal; at = no_place }

abbrev pub check : Bool → Refusal → WriteCheck
check kept refusal = record { kept = kept; rule = unplaced refusal }

-- at least so many bytes, or 1 with that and how many there are; its place is the input's size
abbrev pub size_check : SizeTest → List ℕ → ℕ → Check
size_check test p least = check_at (length p) (Size test) (leb least (length p)) (LengthMismatch least (length p))

-- room for so many bytes, or 11 with that and how many were lent
abbrev pub room_check : ℕ → ℕ → WriteCheck
room_check needed given = check (leb needed given) (BufferTooShort needed given)

-- the checks and the size of a part that may be there
abbrev pub when : {P : Type 0} → Bool → List (CheckOf P) → List (CheckOf P)
when present checks = cond present checks []

abbrev pub size_when : Bool → ℕ → ℕ
size_when present size = cond present size 0

-- a part's rule, where the part stands in its caller's input: the place is counted from there; and so all of its checks
abbrev pub moved_rule : ℕ → Rule → Rule
moved_rule from rule = rule_at (from + rule.at.place) rule.at.test rule.refusal

abbrev pub moved_check : ℕ → Check → Check
moved_check from c = record { kept = c.kept; rule = moved_rule from c.rule }

abbrev pub moved : ℕ → List Check → List Check
moved from [] = []
moved from (c ∷ cs) = moved_check from c ∷ moved from cs

-- what a list of checks comes to; a refusal is no answer 0 by its type, so no check is broken with "done"
pub data VerdictOf (P : Type 0) : Type 0 where
  clear : VerdictOf P
  broken : RuleAt P → VerdictOf P

abbrev pub Verdict : Type 0
Verdict = VerdictOf TestAt

abbrev pub WriteVerdict : Type 0
WriteVerdict = VerdictOf Nowhere

-- clear where every check is kept, else the first rule that is broken
abbrev pub verdict : {P : Type 0} → List (CheckOf P) → VerdictOf P
verdict [] = clear
verdict (c ∷ cs) = cond c.kept (verdict cs) (broken c.rule)

-- the answer that a verdict gives, with the length that goes with 0
abbrev pub answer : {P : Type 0} → VerdictOf P → ℕ → Answer
answer clear length = done length
answer (broken rule) length = refused rule.refusal

-- the place of what is refused, 0 beside 0
abbrev pub place_of : Verdict → ℕ
place_of clear = 0
place_of (broken rule) = rule.at.place

-- one value where all is clear, another beside a refusal
abbrev pub if_clear : {P A : Type 0} → VerdictOf P → A → A → A
if_clear clear value other = value
if_clear (broken rule) value other = other

-- what a call gives: the value where all is clear, else what it says of the broken rule
abbrev pub given_as : {P E A : Type 0} → (RuleAt P → E) → VerdictOf P → A → Result A E
given_as says clear value = Ok value
given_as says (broken rule) value = Err (says rule)

-- of reading the refusal and its place; of writing, and of a call on a list, the refusal alone
abbrev pub refused_at : Refusal → ℕ → Refused
refused_at refusal place = record { refusal = refusal; place = place }

abbrev pub read_as : {A : Type 0} → Verdict → A → Result A Refused
read_as v value = given_as (λ (rule : Rule). refused_at rule.refusal rule.at.place) v value

abbrev pub write_as : {A : Type 0} → WriteVerdict → A → Result A Refusal
write_as v value = given_as (λ (rule : RuleAt Nowhere). rule.refusal) v value

-- what the table has of it: beside 0 a length, where the call has one to give; and its place
abbrev pub read_answer : {A : Type 0} → Result A Refused → ℕ → Answer
read_answer (Ok value) length = done length
read_answer (Err r) length = refused r.refusal

abbrev pub write_answer : {A : Type 0} → Result A Refusal → ℕ → Answer
write_answer (Ok value) length = done length
write_answer (Err r) length = refused r

abbrev pub read_place : {A : Type 0} → Result A Refused → ℕ
read_place (Ok value) = 0
read_place (Err r) = r.place

-- of its refusal alone, where there is one, the same place
abbrev pub refusal_place : Option Refused → ℕ
refusal_place None = 0
refusal_place (Some r) = r.place
