-- Writing the entries of a list.
use Rattle.std.specs.Prelude.{List, [], ◌∷◌, ◌++◌, ℕ, zero, suc, ◌+◌, get_or}
use Rattle.basis.specs.Check.{WriteCheck}
use Rattle.service_entry.specs.EntryWriting.{entry_check, seven_bytes}
use Rattle.service_entry.specs.Service.{filler}
use Rattle.service_entry.specs.declared.entry.ServiceEntry.{ServiceEntry}

-- the checks, and the bytes, of entries one after the other
abbrev pub entry_write_checks : List ServiceEntry → List WriteCheck
entry_write_checks [] = []
entry_write_checks (e ∷ es) = entry_check e ∷ entry_write_checks es

abbrev pub entry_list_bytes : List ServiceEntry → List ℕ
entry_list_bytes [] = []
entry_list_bytes (e ∷ es) = seven_bytes e ++ entry_list_bytes es

-- so many places from one on
abbrev pub places_from : List ServiceEntry → ℕ → ℕ → List ServiceEntry
places_from services k zero = []
places_from services k (suc n) = get_or services k filler ∷ places_from services (k + 1) n
