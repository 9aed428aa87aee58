-- Verdicts: of two lists of checks one after the other, of checks moved to where their part stands, of one check by its index,
-- and what an answer says of its verdict.
-- Assumes nothing.
use mathlib.Core.Path.{◌≡◌, ◌∙◌, sym, refl, ap}
use mathlib.Core.Bool.{Bool, true, false, cond, true≢false, false≢true}
use mathlib.Core.List.{List, [], ◌∷◌, ◌++◌}
use Prim.Native.Nat.{ℕ, zero, suc, ◌+◌}
use lib.Dec.{eqb}
use lib.ListN.{drop}
use Rattle.basis.specs.Answer.{done, refused}
use Rattle.basis.specs.declared.refusal.Refusal.{Refusal}
use Rattle.basis.specs.declared.refusal.Refusal.TheVariants.{LengthMismatch, WrongMagic, UnknownFramerate, InvalidFixedBits, ChecksumFailed, SequenceCountMismatch, ServiceNumberMismatch, InvalidServiceNumber, ServiceFlagsMismatched, WouldOverflow, BufferTooShort, NotWritable, WrongCaptionRun}
use Rattle.basis.specs.Check.{Check, CheckOf, Rule, RuleAt, Verdict, VerdictOf, when, moved, clear, broken, verdict, answer, place_of, moved_rule, if_clear}
use Rattle.basis.specs.declared.answer.Answer.{Answer}

-- the first verdict, and the second where the first is clear
abbrev pub and_then : {P : Type 0} → VerdictOf P → VerdictOf P → VerdictOf P
and_then v w = if_clear v w v

step : {P : Type 0} (kept : Bool) (rule : RuleAt P) (u v w : VerdictOf P) → u ≡ and_then v w
    → cond kept u (broken rule) ≡ and_then (cond kept v (broken rule)) w
step true rule u v w e = e
step false rule u v w e = refl

pub verdict_append : {P : Type 0} (xs ys : List (CheckOf P)) → verdict (xs ++ ys) ≡ and_then (verdict xs) (verdict ys)
verdict_append [] ys = refl
verdict_append (x ∷ xs) ys =
    step x.kept x.rule (verdict (xs ++ ys)) (verdict xs) (verdict ys) (verdict_append xs ys)

broken_not_clear : {P : Type 0} (rule : RuleAt P) → broken rule ≡ clear → ⊥
broken_not_clear rule h = true≢false (ap (λ (v : VerdictOf _). if_clear v false true) h)

-- a verdict moved to where its part stands: the same refusal, its place counted from there
abbrev pub moved_verdict : ℕ → Verdict → Verdict
moved_verdict from clear = clear
moved_verdict from (broken rule) = broken (moved_rule from rule)

moved_step : (from : ℕ) (kept : Bool) (rule : Rule) (u v : Verdict) → u ≡ moved_verdict from v
    → cond kept u (broken (moved_rule from rule))
    ≡ moved_verdict from (cond kept v (broken rule))
moved_step from true rule u v e = e
moved_step from false rule u v e = refl

-- The law: the checks of a part, moved, come to the part's own verdict, moved.
pub verdict_moved : (from : ℕ) (cs : List Check) → verdict (moved from cs) ≡ moved_verdict from (verdict cs)
verdict_moved from [] = refl
verdict_moved from (c ∷ cs) =
    moved_step from c.kept c.rule (verdict (moved from cs)) (verdict cs) (verdict_moved from cs)

-- what moves is the place alone: a part is clear where it stands exactly where it is clear by itself, and answers the same
pub moved_clear : (from : ℕ) (v : Verdict) → v ≡ clear → moved_verdict from v ≡ clear
moved_clear from v h = rw h

pub moved_kept : (from : ℕ) (cs : List Check) → verdict (moved from cs) ≡ clear → verdict cs ≡ clear
moved_kept from cs h = as_clear (verdict cs) (sym (verdict_moved from cs) ∙ h)
  where
    as_clear : (v : Verdict) → moved_verdict from v ≡ clear → v ≡ clear
    as_clear clear e = refl
    as_clear (broken rule) e = absurd (broken_not_clear (moved_rule from rule) e)

pub moved_answer : (from : ℕ) (v : Verdict) (length : ℕ) → answer (moved_verdict from v) length ≡ answer v length
moved_answer from clear length = refl
moved_answer from (broken rule) length = refl

pub moved_refused : (from : ℕ) (v : Verdict) → eqb (answer v 0).number 0 ≡ false
    → eqb (answer (moved_verdict from v) 0).number 0 ≡ false
moved_refused from v h = rw (moved_answer from v 0) h

-- and what its caller gives beside a refusal, made of answer, place and the other value, is made of the part's answer, at its
-- own place behind the caller's
pub moved_shows : {A R : Type 0} (f : Answer → ℕ → A → R) (from : ℕ) (v : Verdict) (count : ℕ) (value other : A)
    → eqb (answer v 0).number 0 ≡ false
    → f (answer v 0) (from + place_of v) other
    ≡ f (answer (moved_verdict from v) count) (place_of (moved_verdict from v)) (if_clear (moved_verdict from v) value other)
moved_shows f from clear count value other h = absurd (true≢false h)
moved_shows f from (broken rule) count value other h = refl

-- no refusal has number 0, so that an answer is done exactly where its verdict is clear
pub refused_not_done : (why : Refusal) → eqb (refused why).number 0 ≡ false
refused_not_done (LengthMismatch e a) = refl
refused_not_done WrongMagic = refl
refused_not_done UnknownFramerate = refl
refused_not_done InvalidFixedBits = refl
refused_not_done ChecksumFailed = refl
refused_not_done SequenceCountMismatch = refl
refused_not_done ServiceNumberMismatch = refl
refused_not_done InvalidServiceNumber = refl
refused_not_done ServiceFlagsMismatched = refl
refused_not_done WouldOverflow = refl
refused_not_done (BufferTooShort n g) = refl
refused_not_done NotWritable = refl
refused_not_done WrongCaptionRun = refl

pub done_is_clear : {P : Type 0} (v : VerdictOf P) (length : ℕ) → eqb (answer v length).number 0 ≡ if_clear v true false
done_is_clear clear length = refl
done_is_clear (broken rule) length = refused_not_done rule.refusal

-- so an answer 0 comes of a clear verdict, and any other of one that no later check changes
pub done_clear : {P : Type 0} (v : VerdictOf P) (length : ℕ) → eqb (answer v length).number 0 ≡ true → v ≡ clear
done_clear clear length h = refl
done_clear (broken rule) length h = absurd (false≢true (sym (refused_not_done rule.refusal) ∙ h))

pub refused_stays : {P : Type 0} (v w : VerdictOf P) (length : ℕ) → eqb (answer v length).number 0 ≡ false → and_then v w ≡ v
refused_stays clear w length h = absurd (true≢false h)
refused_stays (broken rule) w length h = refl

-- checks that refuse decide, where those in front of them are kept, whatever stands behind them
pub refused_behind : {P : Type 0} (xs ys zs : List (CheckOf P)) (length : ℕ) → verdict xs ≡ clear
    → eqb (answer (verdict ys) length).number 0 ≡ false → verdict (xs ++ (ys ++ zs)) ≡ verdict ys
refused_behind xs ys zs length kept h =
    verdict_append xs (ys ++ zs)
    ∙ ap (λ (v : VerdictOf _). and_then v (verdict (ys ++ zs))) kept
    ∙ verdict_append ys zs
    ∙ refused_stays (verdict ys) (verdict zs) length h

-- what is shown beside a verdict: on a refusal the other value, whatever length would go with 0
pub refused_shows : {P A R : Type 0} (f : Answer → A → R) (v : VerdictOf P) (k l : ℕ) (value other : A)
    → eqb (answer v k).number 0 ≡ false → f (answer v k) other ≡ f (answer v l) (if_clear v value other)
refused_shows f clear k l value other h = absurd (true≢false h)
refused_shows f (broken rule) k l value other h = refl

pub done_shows : {P A R : Type 0} (f : Answer → A → R) (v : VerdictOf P) (k l : ℕ) (value other : A)
    → eqb (answer v k).number 0 ≡ true → f (done l) value ≡ f (answer v l) (if_clear v value other)
done_shows f clear k l value other h = refl
done_shows f (broken rule) k l value other h = absurd (false≢true (sym (refused_not_done rule.refusal) ∙ h))

-- where an answer is done, the value beside it is the one that was read
pub done_value : {P A : Type 0} (v : VerdictOf P) (k : ℕ) (value other : A)
    → eqb (answer v k).number 0 ≡ true → if_clear v value other ≡ value
done_value clear k value other h = refl
done_value (broken rule) k value other h = absurd (false≢true (sym (refused_not_done rule.refusal) ∙ h))

first : {P : Type 0} (kept : Bool) (v : VerdictOf P) (rule : RuleAt P) → cond kept v (broken rule) ≡ clear → kept ≡ true
first true v rule h = refl
first false v rule h = absurd (broken_not_clear rule h)

rest : {P : Type 0} (kept : Bool) (v : VerdictOf P) (rule : RuleAt P) → cond kept v (broken rule) ≡ clear → v ≡ clear
rest true v rule h = h
rest false v rule h = absurd (broken_not_clear rule h)

-- a clear verdict means that each check is kept, the first and those behind it
kept_first : {P : Type 0} (c : CheckOf P) (cs : List (CheckOf P)) → verdict (c ∷ cs) ≡ clear → c.kept ≡ true
kept_first c cs h = first c.kept (verdict cs) c.rule h

kept_rest : {P : Type 0} (c : CheckOf P) (cs : List (CheckOf P)) → verdict (c ∷ cs) ≡ clear → verdict cs ≡ clear
kept_rest c cs h = rest c.kept (verdict cs) c.rule h

-- by its index: whether the check behind so many others is kept, and those from there on
abbrev pub kept_at : {P : Type 0} → ℕ → List (CheckOf P) → Bool
kept_at k [] = true
kept_at zero (c ∷ cs) = c.kept
kept_at (suc k) (c ∷ cs) = kept_at k cs

pub kept_at_lem : {P : Type 0} (k : ℕ) (cs : List (CheckOf P)) → verdict cs ≡ clear → kept_at k cs ≡ true
kept_at_lem k [] h = refl
kept_at_lem zero (c ∷ cs) h = kept_first c cs h
kept_at_lem (suc k) (c ∷ cs) h = kept_at_lem k cs (kept_rest c cs h)

pub kept_from : {P : Type 0} (k : ℕ) (cs : List (CheckOf P)) → verdict cs ≡ clear → verdict (drop k cs) ≡ clear
kept_from zero cs h = h
kept_from (suc k) [] h = refl
kept_from (suc k) (c ∷ cs) h = kept_from k cs (kept_rest c cs h)

-- of two verdicts one after the other that are clear, both are
pub and_first : {P : Type 0} (v w : VerdictOf P) → and_then v w ≡ clear → v ≡ clear
and_first clear w h = refl
and_first (broken rule) w h = h

pub and_second : {P : Type 0} (v w : VerdictOf P) → and_then v w ≡ clear → w ≡ clear
and_second clear w h = h
and_second (broken rule) w h = absurd (broken_not_clear rule h)

-- so of two lists of checks
pub append_first : {P : Type 0} (xs ys : List (CheckOf P)) → verdict (xs ++ ys) ≡ clear → verdict xs ≡ clear
append_first xs ys h = and_first (verdict xs) (verdict ys) (sym (verdict_append xs ys) ∙ h)

pub append_second : {P : Type 0} (xs ys : List (CheckOf P)) → verdict (xs ++ ys) ≡ clear → verdict ys ≡ clear
append_second xs ys h = and_second (verdict xs) (verdict ys) (sym (verdict_append xs ys) ∙ h)

-- nothing comes of a clear verdict behind another
pub and_clear : {P : Type 0} (v : VerdictOf P) → and_then v clear ≡ v
and_clear clear = refl
and_clear (broken rule) = refl

-- the checks of a part that is there are its own
pub when_there : {P : Type 0} (present : Bool) (cs : List (CheckOf P)) → present ≡ true → verdict (when present cs) ≡ clear
    → verdict cs ≡ clear
when_there true cs on h = h
when_there false cs on h = absurd (false≢true on)
