-- Writing a section.
use Rattle.std.specs.Prelude.{List, [], ◌∷◌, ◌++◌, ℕ, ◌+◌, length}
use Rattle.basis.specs.Check.{WriteCheck, room_check, verdict}
use Rattle.basis.specs.Mask.{flag}
use Rattle.values.specs.Layout.{services_id, section_length}
use Rattle.basis.specs.Writing.{Written, written}
use Rattle.service_entry.specs.EntriesWriting.{entry_list_bytes, entry_write_checks, places_from}
use Rattle.service_list.specs.ServiceList.{count_check}
use Rattle.service_list.specs.declared.list.ServiceInfo.{ServiceInfo}
use Rattle.service_entry.specs.declared.entry.ServiceEntry.{ServiceEntry}

-- the entries that the list counts; places past the count are unread
abbrev pub counted : ServiceInfo → List ServiceEntry
counted l = places_from l.services 0 l.count

-- byte 1: 80, then 40 start, 20 change, 10 complete, and the count
abbrev pub section_byte : ServiceInfo → ℕ
section_byte l = 0x80 + flag l.start 0x40 + flag l.change 0x20 + flag l.complete 0x10 + l.count

unfoldable pub section_bytes : ServiceInfo → List ℕ
section_bytes l = services_id ∷ section_byte l ∷ entry_list_bytes (counted l)

-- W7: the count; W8: the entries
abbrev pub value_checks : ServiceInfo → List WriteCheck
value_checks l = count_check l ∷ entry_write_checks (counted l)

-- a section: count, entries, room
unfoldable pub section_written : ServiceInfo → List ℕ → Written
section_written l buffer =
    written (verdict (value_checks l ++ room_check (section_length l.count) (length buffer) ∷ [])) (section_bytes l) buffer
