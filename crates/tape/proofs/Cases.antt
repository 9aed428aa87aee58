-- Words of tapes, worked: lines of docs/TAPE.md and words at the limits.
-- Assumes nothing.
use mathlib.Core.Path.{◌≡◌, refl}
use mathlib.Core.Bool.{true, false}
use mathlib.Core.List.{List, [], ◌∷◌}
use Rattle.std.proofs.Common.{None, Some}
use Prim.Native.Nat.{ℕ}
use Rattle.service_entry.specs.Service.{digital_entry, entry}
use Rattle.service_entry.specs.declared.service.FieldOrService.TheVariants.{Field, Service}
use Rattle.service_entries.specs.Entries.{filled}
use Rattle.service_list.specs.ServiceList.{list}
use Rattle.values_time.specs.Time.{time_absent, time_code, time_present}
use Rattle.tape.specs.Held.{clock_at, held_time_at}
use Rattle.tape.specs.Lent.{room_of}
use Rattle.tape.specs.Lists.{
  digital_at,
  entries_at,
  entries_from,
  entry_at,
  field_at,
  in_language,
  list_at,
  list_counting,
}
use Rattle.tape.specs.Words.{
  byte_at,
  bytes_at,
  decimal,
  digit_value,
  digits_of,
  flag_at,
  mark_at,
  number_at,
  pairs_at,
  pairs_from,
  word,
}

-- `P 008 966`: zeros in front are allowed, and a digit too many is left
abbrev packet_line : List ℕ
packet_line = 80 ∷ 32 ∷ 48 ∷ 48 ∷ 56 ∷ 32 ∷ 57 ∷ 54 ∷ 54 ∷ []

packet_room : room_of packet_line ≡ Some (word 8 5)
unfolding mark_at number_at digits_of decimal
packet_room = refl

packet_bytes : bytes_at 4096 packet_line 6 ≡ Some (word 1 8)
unfolding bytes_at pairs_at pairs_from byte_at digit_value mark_at
packet_bytes = refl

-- `4294967295` is a number of 32 bits, `4294967296` is none
largest : number_at (52 ∷ 50 ∷ 57 ∷ 52 ∷ 57 ∷ 54 ∷ 55 ∷ 50 ∷ 57 ∷ 53 ∷ []) 0 4294967295 ≡ Some (word 4294967295 10)
unfolding number_at digits_of decimal
largest = refl

too_large : number_at (52 ∷ 50 ∷ 57 ∷ 52 ∷ 57 ∷ 54 ∷ 55 ∷ 50 ∷ 57 ∷ 54 ∷ []) 0 4294967295 ≡ None
unfolding number_at digits_of decimal
too_large = refl

-- `d:1:0:0:656e67`
digital : entry_at (100 ∷ 58 ∷ 49 ∷ 58 ∷ 48 ∷ 58 ∷ 48 ∷ 58 ∷ 54 ∷ 53 ∷ 54 ∷ 101 ∷ 54 ∷ 55 ∷ []) 0
    ≡ Some (word (entry (0x65 ∷ 0x6e ∷ 0x67 ∷ []) (Service (digital_entry 1 false false))) 14)
unfolding entry_at digital_at in_language number_at digits_of digit_value decimal flag_at byte_at mark_at
digital = refl

-- `1,0,1;f:2:656e67`
listed : list_at (49 ∷ 44 ∷ 48 ∷ 44 ∷ 49 ∷ 59 ∷ 102 ∷ 58 ∷ 50 ∷ 58 ∷ 54 ∷ 53 ∷ 54 ∷ 101 ∷ 54 ∷ 55 ∷ []) 0
    ≡ Some (word (list true false true (filled (entry (0x65 ∷ 0x6e ∷ 0x67 ∷ []) (Field false) ∷ [])) 1) 16)
unfolding list_at entries_at entries_from list_counting entry_at field_at in_language flag_at byte_at digit_value mark_at
listed = refl

-- `-` and `1:2:3:4:0:1`
no_time : held_time_at (45 ∷ []) 0 ≡ Some (word time_absent 1)
unfolding held_time_at mark_at
no_time = refl

time : held_time_at (49 ∷ 58 ∷ 50 ∷ 58 ∷ 51 ∷ 58 ∷ 52 ∷ 58 ∷ 48 ∷ 58 ∷ 49 ∷ []) 0
    ≡ Some (word (time_present (time_code 1 2 3 4 false true)) 11)
unfolding held_time_at clock_at number_at digits_of decimal flag_at mark_at
time = refl
