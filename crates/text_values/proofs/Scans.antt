-- The scan, one value on: the text of the runs that have ended, and what the code holds.
-- Assumes nothing.
use mathlib.Core.Bool.{Bool, true, false, cond, ◌||◌}
use mathlib.Core.List.{List, [], ◌∷◌, ◌++◌, append_assoc, append-nil}
use mathlib.Core.Path.{◌≡◌, ◌∙◌, refl, ap}
use Prim.Native.Nat.{ℕ, ◌+◌}
use native.Mathlib.Numerals.{add-one}
use Rattle.text.specs.Ascii.{ascii}
use Rattle.text_values.specs.Code.{going_text, held_scan, next_scan, put_at, run_behind, some_runs}
use Rattle.text_values.specs.Runs.{Run, Scanned, grown, run_text, runs_of, runs_text, scanned, shut, with_going}
use Rattle.text_values.specs.declared.runs.Scan.{Scan}
use Rattle.std.specs.Prelude.{Option, Some, None, is_some}

-- one run behind others
run_more : (runs : List Run) (run : Run)
    → runs_text runs ++ (cond (some_runs runs) (ascii ",") [] ++ run_text run) ≡ runs_text (runs ++ run ∷ [])
run_more [] run = refl
run_more (first ∷ []) run = refl
run_more (first ∷ second ∷ runs) run =
    append_assoc (run_text first) (ascii "," ++ runs_text (second ∷ runs)) (ascii "," ++ run_text run)
    ∙ ap (λ (text : List ℕ). run_text first ++ (ascii "," ++ text)) (run_more (second ∷ runs) run)

some_more : (runs : List Run) (going : Option Run) → some_runs runs || is_some going ≡ some_runs (with_going runs going)
some_more [] (Some run) = refl
some_more [] None = refl
some_more (first ∷ runs) (Some run) = refl
some_more (first ∷ runs) None = refl

-- the run that goes on, behind those that have ended
going_more : (runs : List Run) (going : Option Run)
    → runs_text runs ++ run_behind (some_runs runs) going ≡ runs_text (with_going runs going)
going_more runs (Some run) = run_more runs run
going_more runs None = append-nil (runs_text runs)

text_step : (s : Scanned) (v : ℕ) (taken : Bool)
    → runs_text s.ended ++ put_at (held_scan s) taken ≡ runs_text (cond taken (grown s v) (shut s)).ended
text_step s v true = append-nil (runs_text s.ended)
text_step s v false = going_more s.ended s.going

held_step : (s : Scanned) (v : ℕ) (taken : Bool)
    → next_scan (held_scan s) v taken ≡ held_scan (cond taken (grown s v) (shut s))
held_step s v true = refl
held_step s v false = rw (some_more s.ended s.going)

module _ (asked : ℕ → Bool) where
  pub held_none : held_scan (scanned asked 0) ≡ record { some = false; going = None }
  unfolding scanned
  held_none = refl

  pub text_none : runs_text (scanned asked 0).ended ≡ []
  unfolding scanned
  text_none = refl

  -- what is held, and whether the next value is taken, are handed over
  module _ (v : ℕ) (s : Scan) (taken : Bool) (held : s ≡ held_scan (scanned asked v)) (as_asked : taken ≡ asked v) where
    pub text_more : runs_text (scanned asked v).ended ++ put_at s taken ≡ runs_text (scanned asked (v + 1)).ended
    unfolding scanned
    text_more = rw (add-one v, held, as_asked) (text_step (scanned asked v) v (asked v))

    pub held_more : next_scan s v taken ≡ held_scan (scanned asked (v + 1))
    unfolding scanned
    held_more = rw (add-one v, held, as_asked) (held_step (scanned asked v) v (asked v))

  pub text_all : (n : ℕ) (s : Scan) → n ≡ 256 → s ≡ held_scan (scanned asked n)
      → runs_text (scanned asked n).ended ++ going_text s ≡ runs_text (runs_of asked)
  unfolding runs_of
  text_all n s all held = rw (held, all) (going_more (scanned asked 256).ended (scanned asked 256).going)
