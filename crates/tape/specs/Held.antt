-- A rate, and what a writer may hold, as a tape spells them: RATE, TIME and LIST of docs/TAPE.md.
use Rattle.std.specs.Prelude.{List, ℕ, Option, Some, None}
use Rattle.service_list.specs.ServiceList.{list_absent, list_present}
use Rattle.service_list.specs.declared.list.MaybeServiceInfo.{MaybeServiceInfo}
use Rattle.values_time.specs.Time.{time_absent, time_code, time_present}
use Rattle.values_time.specs.declared.time.MaybeTimeCode.{MaybeTimeCode}
use Rattle.values.specs.Rate.{row}
use Rattle.values.specs.declared.framerate.Framerate.{Framerate}
use Rattle.tape.specs.Lists.{list_at}
use Rattle.tape.specs.Words.{◌>>=◌, flag_at, mark_at, number_at, small_at, word}
use Rattle.tape.specs.declared.words.Word.{Word}

-- the largest number of 32 bits
abbrev pub most32 : ℕ
most32 = 4294967295

-- three numbers with slashes between them, the id in 8 bits and the others in 32
unfoldable pub held_rate_at : List ℕ → ℕ → Option (Word Framerate)
held_rate_at line at = do
  id ← small_at line at
  to_numer ← mark_at line id.next 47
  numer ← number_at line to_numer most32
  to_denom ← mark_at line numer.next 47
  denom ← number_at line to_denom most32
  Some (word (row id.value numer.value denom.value) denom.next)

-- four numbers and two flags with colons between them
unfoldable pub clock_at : List ℕ → ℕ → Option (Word MaybeTimeCode)
clock_at line at = do
  hours ← small_at line at
  to_minutes ← mark_at line hours.next 58
  minutes ← small_at line to_minutes
  to_seconds ← mark_at line minutes.next 58
  seconds ← small_at line to_seconds
  to_frames ← mark_at line seconds.next 58
  frames ← small_at line to_frames
  to_field ← mark_at line frames.next 58
  field ← flag_at line to_field
  to_drop ← mark_at line field.next 58
  drop ← flag_at line to_drop
  Some (word
      (time_present (time_code hours.value minutes.value seconds.value frames.value field.value drop.value)) drop.next)

-- a dash where no time code is held
unfoldable pub held_time_at : List ℕ → ℕ → Option (Word MaybeTimeCode)
held_time_at line at = elim (mark_at line at 45) [
  | Some next ↦ Some (word time_absent next)
  | None ↦ clock_at line at
]

-- a dash where no list is held
unfoldable pub held_services_at : List ℕ → ℕ → Option (Word MaybeServiceInfo)
held_services_at line at = elim (mark_at line at 45) [
  | Some next ↦ Some (word list_absent next)
  | None ↦ (list_at line at >>= λ list. Some (word (list_present list.value) list.next))
]
