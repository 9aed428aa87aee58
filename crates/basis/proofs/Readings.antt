-- What a call gives of a verdict: what is known where it is done and where it refuses, and what its caller hands on.
-- Assumes nothing.
use mathlib.Core.Bool.{true≢false, false≢true}
use mathlib.Core.Path.{◌≡◌, ◌∙◌, sym, refl, ap}
use Prim.Native.Nat.{ℕ, ◌+◌}
use Rattle.std.specs.Prelude.{Result, Ok, Err, is_ok}
use Rattle.std.specs.Result.{result_err, result_unwrap_or}
use Rattle.basis.proofs.Verdicts.{and_clear, and_then, moved_verdict}
use Rattle.basis.specs.Check.{
  RuleAt,
  Verdict,
  VerdictOf,
  WriteVerdict,
  answer,
  broken,
  clear,
  given_as,
  if_clear,
  place_of,
  read_answer,
  read_as,
  read_place,
  refusal_place,
  refused_at,
  write_answer,
  write_as,
}
use Rattle.basis.specs.Answer.{refused}
use Rattle.basis.specs.Code.{outcome, part_answer, tested}
use Rattle.basis.specs.declared.answer.Answer.{Answer}
use Rattle.basis.specs.declared.refusal.Refused.{Refused}

abbrev err_or : {A E : Type 0} → Result A E → E → E
err_or (Ok value) r = r
err_or (Err r) s = r

module _ {P E A : Type 0} (says : RuleAt P → E) where
  -- a value is given where the verdict is clear, and it is that one
  pub given_clear : (v : VerdictOf P) (value got : A) → given_as says v value ≡ Ok got → v ≡ clear
  given_clear clear value got h = refl
  given_clear (broken rule) value got h = absurd (false≢true (ap is_ok h))

  pub given_value : (v : VerdictOf P) (value got : A) → given_as says v value ≡ Ok got → got ≡ value
  given_value clear value got h = sym (ap (λ (r : Result A E). result_unwrap_or r value) h)
  given_value (broken rule) value got h = absurd (false≢true (ap is_ok h))

  -- a refusal is the caller's, whatever stands behind the part
  pub refused_first : {B : Type 0} (v w : VerdictOf P) (value : A) (other : B) (r : E) → given_as says v value ≡ Err r
      → Err r ≡ given_as says (and_then v w) other
  refused_first clear w value other r h = absurd (true≢false (ap is_ok h))
  refused_first (broken rule) w value other r h = ap Err (sym (ap (λ (s : Result A E). err_or s r) h))

  -- so is that of one verdict, whatever else would be given
  pub refused_alone : {B : Type 0} (v : VerdictOf P) (value : A) (other : B) (r : E) → given_as says v value ≡ Err r
      → Err r ≡ given_as says v other
  refused_alone v value other r h =
      refused_first v clear value other r h ∙ ap (λ (u : VerdictOf P). given_as says u other) (and_clear v)

module _ {A : Type 0} where
  -- and where the part stands further on, its place is counted from there
  pub refused_moved : {B : Type 0} (from : ℕ) (v : Verdict) (value : A) (other : B) (r : Refused) → read_as v value ≡ Err r
      → Err (refused_at r.refusal (from + r.place)) ≡ read_as (moved_verdict from v) other
  refused_moved from clear value other r h = absurd (true≢false (ap is_ok h))
  refused_moved from (broken rule) value other r h =
      ap (λ (s : Result A Refused). Err (refused_at (err_or s r).refusal (from + (err_or s r).place))) (sym h)

  -- so of what testing gives, and of what testing a part gives, whatever its size would be
  pub moved_outcome : (from : ℕ) (v : Verdict) (value : A) (r : Refused) → read_as v value ≡ Err r
      → Err (refused_at r.refusal (from + r.place)) ≡ outcome (moved_verdict from v)
  moved_outcome from v value r h = refused_moved from v value tt r h

  pub moved_tested : (from : ℕ) (v : Verdict) (value : A) (size : ℕ) (r : Refused) → read_as v value ≡ Err r
      → Err (refused_at r.refusal (from + r.place)) ≡ tested (moved_verdict from v) size
  moved_tested from v value size r h = refused_moved from v value size r h

  -- what a caller gives that answers by itself: the place, the answer, and the value beside a refusal
  pub refused_gives : {B R : Type 0} (f : ℕ → Answer → B → R) (v : Verdict) (value : A) (r : Refused) (length : ℕ)
      (other beside : B) → read_as v value ≡ Err r
      → f r.place (refused r.refusal) beside ≡ f (place_of v) (answer v length) (if_clear v other beside)
  refused_gives f clear value r length other beside h = absurd (true≢false (ap is_ok h))
  refused_gives f (broken rule) value r length other beside h =
      ap (λ (s : Result A Refused). f (err_or s r).place (refused (err_or s r).refusal) beside) (sym h)

  -- what the table has of it
  pub answer_read : (v : Verdict) (value : A) (length : ℕ) → read_answer (read_as v value) length ≡ answer v length
  answer_read clear value length = refl
  answer_read (broken rule) value length = refl

  pub place_read : (v : Verdict) (value : A) → read_place (read_as v value) ≡ place_of v
  place_read clear value = refl
  place_read (broken rule) value = refl

  -- and what its refusal has, where there is one, is the same
  pub place_alone : (got : Result A Refused) → refusal_place (result_err got) ≡ read_place got
  place_alone (Ok value) = refl
  place_alone (Err r) = refl

  pub answer_written : (v : WriteVerdict) (value : A) (length : ℕ) → write_answer (write_as v value) length ≡ answer v length
  answer_written clear value length = refl
  answer_written (broken rule) value length = refl

pub part_answered : (v : Verdict) (size : ℕ) → part_answer (read_as v size) ≡ answer v 0
part_answered clear size = refl
part_answered (broken rule) size = refl
