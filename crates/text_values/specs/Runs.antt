-- The values of a byte that are taken, as runs of values that follow on one another.
use Rattle.std.specs.Prelude.{Bool, false, cond, ◌&&◌, ◌||◌, List, [], ◌∷◌, ◌++◌, Option, Some, None, ℕ, zero, suc, ◌+◌, ◌≤◌, eqb, leb}
use Rattle.text.specs.Ascii.{ascii}
use Rattle.text.specs.Digits.{hex_after, hex_text}
use Rattle.text_values.specs.declared.runs.Run.{Run as LowHigh}

-- the values from low to high, both among them
abbrev pub Run : Type 0
Run = LowHigh

-- whether a value is in one of them
abbrev pub among : ℕ → List Run → Bool
among v [] = false
among v (run ∷ runs) = (leb run.low v && leb v run.high) || among v runs

-- ascending from a value on, and no two that touch: each begins two above the end of the one before, or higher
abbrev pub Apart : ℕ → List Run → Type 0
Apart least [] = Unit
Apart least (run ∷ runs) = (least ≤ run.low) × (run.low ≤ run.high) × Apart (run.high + 2) runs

-- the values looked at so far: the runs that have ended, and the one that goes on, where the last value was taken
pub record Scanned : Type 0 where
  pub ended : List Run
  pub going : Option Run

-- a value that is taken is the new end of the run that goes on, or begins one
abbrev pub low_of : Option Run → ℕ → ℕ
low_of None v = v
low_of (Some run) v = run.low

abbrev pub grown : Scanned → ℕ → Scanned
grown s v =
    record { ended = s.ended; going = Some (record { low = low_of s.going v; high = v }) }

-- the runs so far, with the one that goes on
abbrev pub with_going : List Run → Option Run → List Run
with_going runs None = runs
with_going runs (Some run) = runs ++ run ∷ []

abbrev pub runs_so_far : Scanned → List Run
runs_so_far s = with_going s.ended s.going

-- behind a value that is not taken none goes on
abbrev pub shut : Scanned → Scanned
shut s = record { ended = runs_so_far s; going = None }

-- all values below a number, from 0 on
unfoldable pub scanned : (ℕ → Bool) → ℕ → Scanned
scanned asked zero = record { ended = []; going = None }
scanned asked (suc v) = cond (asked v) (grown (scanned asked v) v) (shut (scanned asked v))

-- all values of a byte
unfoldable pub runs_of : (ℕ → Bool) → List Run
runs_of asked = runs_so_far (scanned asked 256)

-- a value alone, or both ends of a range
unfoldable pub run_text : Run → List ℕ
run_text run = cond (eqb run.low run.high) (hex_text run.low) (hex_text run.low ++ hex_after "-" run.high)

-- with commas between them
abbrev pub runs_text : List Run → List ℕ
runs_text [] = []
runs_text (run ∷ []) = run_text run
runs_text (run ∷ next ∷ runs) = run_text run ++ (ascii "," ++ runs_text (next ∷ runs))
