-- What a list holds: entries, each a language and what it names.
use Rattle.std.specs.Prelude.{Bool, true, List, [], ◌∷◌, ℕ, Result, Ok, Err}
use Rattle.basis.specs.declared.refusal.Refused.{Refused}
use Rattle.service_entry.specs.declared.entry.ServiceEntry.{ServiceEntry}
use Rattle.service_entry.specs.declared.service.DigitalServiceEntry.{DigitalServiceEntry}
use Rattle.service_entry.specs.declared.service.FieldOrService.{FieldOrService}
use Rattle.service_entry.specs.declared.service.FieldOrService.TheVariants.{Field, Service}

abbrev pub digital_entry : ℕ → Bool → Bool → DigitalServiceEntry
digital_entry number easy wide = record { service = number; easy_reader = easy; wide_aspect_ratio = wide }

abbrev pub entry : List ℕ → FieldOrService → ServiceEntry
entry language service = record { language = language; service = service }

-- what places past a list's count hold: language 0 0 0, field 1
abbrev pub filler : ServiceEntry
filler = entry (0 ∷ 0 ∷ 0 ∷ []) (Field true)

-- what is shown of a reading: the entry, or the filler where it was refused
abbrev pub entry_shown : Result ServiceEntry Refused → ServiceEntry
entry_shown (Ok e) = e
entry_shown (Err r) = filler

-- S8: the number that an entry's header byte has to name: the digital number, or 0 for a field
abbrev pub number_of : FieldOrService → ℕ
number_of (Field first) = 0
number_of (Service digital) = digital.service
