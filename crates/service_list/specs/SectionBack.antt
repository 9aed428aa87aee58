-- What reading a section again asks of the list that it was written from.
use Rattle.std.specs.Prelude.{Bool, true, false, cond, not, ◌&&◌, ◌||◌, List, [], ◌∷◌, ◌≡◌, ℕ, ◌+◌, ◌≤◌, eqb, length}
use Rattle.service_entries.specs.Entries.{places}
use Rattle.service_entry.specs.Code.{all_writable}
use Rattle.service_list.specs.SectionWriting.{counted}
use Rattle.service_entry.specs.declared.entry.ServiceEntry.{ServiceEntry}
use Rattle.service_list.specs.declared.list.ServiceInfo.{ServiceInfo}
use Rattle.service_entry.specs.declared.service.FieldOrService.{FieldOrService}
use Rattle.service_entry.specs.declared.service.FieldOrService.TheVariants.{Field, Service}

-- field 2, whose header byte 81 names 1, where S8 asks for 0
abbrev pub is_field_two : FieldOrService → Bool
is_field_two (Field first) = not first
is_field_two (Service digital) = false

-- whether any of the entries is field 2
unfoldable pub names_field_two : List ServiceEntry → Bool
names_field_two [] = false
names_field_two (e ∷ es) = is_field_two e.service || names_field_two es

-- and how many entries stand in front of the first of these, whose header byte reading refuses
unfoldable pub before_field_two : List ServiceEntry → ℕ
before_field_two [] = 0
before_field_two (e ∷ es) = cond (is_field_two e.service) 0 (1 + before_field_two es)

-- every language has its three bytes, as its type says; what is shown of a list hangs on it, and no answer does
unfoldable pub all_of_three : List ServiceEntry → Bool
all_of_three [] = true
all_of_three (e ∷ es) = eqb (length e.language) 3 && all_of_three es

-- a list that a section writer takes, by what it tests; no test looks at a language
pub record Ready (l : ServiceInfo) : Type 0 where
  pub count : l.count ≤ places
  pub numbers : all_writable (counted l) ≡ true
