-- Entries and lists as a tape spells them: ENTRY and LIST of docs/TAPE.md.
use Rattle.std.specs.Prelude.{Bool, true, false, cond, List, [], ◌∷◌, ℕ, zero, suc, ◌+◌, ltb, length, set, take, Option, Some, None}
use Rattle.service_entry.specs.Service.{digital_entry, entry}
use Rattle.service_entry.specs.declared.entry.ServiceEntry.{ServiceEntry}
use Rattle.service_entry.specs.declared.service.FieldOrService.{FieldOrService}
use Rattle.service_entry.specs.declared.service.FieldOrService.TheVariants.{Field, Service}
use Rattle.service_entries.specs.Entries.{filled, places}
use Rattle.service_list.specs.ServiceList as ServiceList
use Rattle.service_list.specs.declared.list.ServiceInfo.{ServiceInfo}
use Rattle.tape.specs.Words.{◌>>=◌, byte_at, flag_at, mark_at, small_at, word}
use Rattle.tape.specs.declared.words.Word.{Word}

-- the last part of an entry: a colon, and the three bytes of the language
unfoldable pub in_language : List ℕ → ℕ → FieldOrService → Option (Word ServiceEntry)
in_language line at service = do
  language ← mark_at line at 58
  first ← byte_at line language
  second ← byte_at line first.next
  third ← byte_at line second.next
  Some (word (entry (first.value ∷ second.value ∷ third.value ∷ []) service) third.next)

-- behind a d: the number, easy reader and wide aspect ratio, each behind a colon
unfoldable pub digital_at : List ℕ → ℕ → Option (Word ServiceEntry)
digital_at line at = do
  to_number ← mark_at line at 58
  number ← small_at line to_number
  to_easy ← mark_at line number.next 58
  easy ← flag_at line to_easy
  to_wide ← mark_at line easy.next 58
  wide ← flag_at line to_wide
  in_language line wide.next (Service (digital_entry number.value easy.value wide.value))

-- behind an f and its colon: 1 for the first field, else 2 for the second
unfoldable pub field_at : List ℕ → ℕ → Option (Word ServiceEntry)
field_at line at = do
  which ← mark_at line at 58
  elim (mark_at line which 49) [
    | Some first ↦ in_language line first (Field true)
    | None ↦ (mark_at line which 50 >>= λ second. in_language line second (Field false))
  ]

-- a d and a digital service, else an f and a field
unfoldable pub entry_at : List ℕ → ℕ → Option (Word ServiceEntry)
entry_at line at = elim (mark_at line at 100) [
  | Some behind ↦ digital_at line behind
  | None ↦ (mark_at line at 102 >>= field_at line)
]

-- the entries one after the other from a place on, each behind a semicolon, no more than so many
unfoldable pub entries_from : ℕ → List ℕ → ℕ → Option (Word (List ServiceEntry))
entries_from zero line at = Some (word [] at)
entries_from (suc n) line at = elim (mark_at line at 59) [
  | Some behind ↦ (do
    first ← entry_at line behind
    others ← entries_from n line first.next
    Some (word (first.value ∷ others.value) others.next))
  | None ↦ Some (word [] at)
]

-- a list with all of these counted and the first fifteen in the places
unfoldable pub list_counting : Bool → Bool → Bool → List ServiceEntry → ServiceInfo
list_counting start change complete es = ServiceList.list start change complete (filled (take places es)) (length es)

-- the entries behind the flags; a line has fewer entries than bytes
unfoldable pub entries_at : List ℕ → ℕ → Bool → Bool → Bool → Option (Word ServiceInfo)
entries_at line at start change complete = do
  es ← entries_from (length line) line at
  Some (word (list_counting start change complete es.value) es.next)

-- one entry more; behind the fifteenth it is counted and has no place
unfoldable pub with_one_more : ServiceInfo → ServiceEntry → ServiceInfo
with_one_more l e =
    ServiceList.list l.start l.change l.complete
    (cond (ltb l.count places) (set l.services l.count e) l.services) (l.count + 1)

-- three flags with commas between them, and the entries
unfoldable pub list_at : List ℕ → ℕ → Option (Word ServiceInfo)
list_at line at = do
  start ← flag_at line at
  to_change ← mark_at line start.next 44
  change ← flag_at line to_change
  to_complete ← mark_at line change.next 44
  complete ← flag_at line to_complete
  entries_at line complete.next start.value change.value complete.value
