-- A section, read: the list of its flags and its entries.
use Rattle.std.specs.Prelude.{List, ℕ, Result}
use Rattle.basis.specs.Bytes.{byte}
use Rattle.basis.specs.Check.{read_as, verdict}
use Rattle.basis.specs.declared.refusal.Refused.{Refused}
use Rattle.basis.specs.Mask.{under, all_set, x40, x20, x10, x0f}
use Rattle.service_entries.specs.Entries.{count_of, entries_of, filled, section_checks}
use Rattle.service_list.specs.ServiceList.{list}
use Rattle.service_entry.specs.declared.entry.ServiceEntry.{ServiceEntry}
use Rattle.service_list.specs.declared.list.ServiceInfo.{ServiceInfo}

-- the list that byte 1 and these places make: 40 start, 20 change, 10 complete, the low four bits the count
abbrev pub list_with : ℕ → List ServiceEntry → ServiceInfo
list_with header services = list (all_set x40 header) (all_set x20 header) (all_set x10 header) services (under x0f header)

-- the list that a section's bytes hold
unfoldable pub list_of : List ℕ → ServiceInfo
list_of d = list_with (byte d 1) (filled (entries_of d 2 (count_of d)))

-- what reading a section alone gives; a refusal gives no list
unfoldable pub section_read : List ℕ → Result ServiceInfo Refused
section_read d = read_as (verdict (section_checks d)) (list_of d)
