-- Follows the code and not the rules: what the code holds of the values looked at so far. The runs that have ended are in the
-- text, and whether there is one.
use Rattle.std.specs.Prelude.{Bool, true, false, cond, ◌||◌, List, [], ◌∷◌, ◌++◌, Option, Some, None, ℕ, is_some}
use Rattle.text.specs.Ascii.{ascii}
use Rattle.text_values.specs.Runs.{Run, Scanned, low_of, run_text}
use Rattle.text_values.specs.declared.runs.Scan.{Scan}

abbrev pub some_runs : List Run → Bool
some_runs [] = false
some_runs (run ∷ runs) = true

-- what it holds
abbrev pub held_scan : Scanned → Scan
held_scan s = record { some = some_runs s.ended; going = s.going }

-- behind a value that is taken, and behind one that is not
abbrev pub next_scan : Scan → ℕ → Bool → Scan
next_scan s v true = record { some = s.some; going = Some (record { low = low_of s.going v; high = v }) }
next_scan s v false = record { some = s.some || is_some s.going; going = None }

-- the run that goes on, as it is put behind the others
abbrev pub run_behind : Bool → Option Run → List ℕ
run_behind some None = []
run_behind some (Some run) = cond some (ascii ",") [] ++ run_text run

abbrev pub going_text : Scan → List ℕ
going_text s = run_behind s.some s.going

-- what is put at a value
abbrev pub put_at : Scan → Bool → List ℕ
put_at s true = []
put_at s false = going_text s
