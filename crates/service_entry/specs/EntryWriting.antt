-- Writing an entry.
use Rattle.std.specs.Prelude.{Bool, true, cond, ◌&&◌, List, [], ◌∷◌, ℕ, ◌+◌, leb, length}
use Rattle.basis.specs.declared.refusal.Refusal.TheVariants.{NotWritable}
use Rattle.basis.specs.Bytes.{byte}
use Rattle.basis.specs.Check.{WriteCheck, check, room_check, verdict}
use Rattle.basis.specs.Mask.{flag}
use Rattle.basis.specs.Writing.{Written, written}
use Rattle.service_entry.specs.declared.entry.ServiceEntry.{ServiceEntry}
use Rattle.service_entry.specs.declared.service.FieldOrService.{FieldOrService}
use Rattle.service_entry.specs.declared.service.FieldOrService.TheVariants.{Field, Service}

-- how many bytes an entry has
abbrev pub entry_length : ℕ
entry_length = 6

-- and how many in a section, behind its header byte
abbrev pub seven_length : ℕ
seven_length = entry_length + 1

-- a digital number is 1 to 63; both fields can be written
abbrev pub most_number : ℕ
most_number = 63

abbrev pub writable : FieldOrService → Bool
writable (Field first) = true
writable (Service digital) = leb 1 digital.service && leb digital.service most_number

abbrev pub entry_check : ServiceEntry → WriteCheck
entry_check e = check (writable e.service) NotWritable

-- bytes 3 and 4: C0 + number and the two flags above 3F; 7E and 3F for field 1, 7F and 3F for field 2
abbrev pub kind_byte : FieldOrService → ℕ
kind_byte (Field first) = cond first 0x7E 0x7F
kind_byte (Service digital) = 0xC0 + digital.service

abbrev pub flags_byte : FieldOrService → ℕ
flags_byte (Field first) = 0x3F
flags_byte (Service digital) = flag digital.easy_reader 0x80 + flag digital.wide_aspect_ratio 0x40 + 0x3F

-- the language, these two, FF
abbrev pub entry_bytes : ServiceEntry → List ℕ
entry_bytes e =
    byte e.language 0
    ∷ byte e.language 1
    ∷ byte e.language 2
    ∷ kind_byte e.service
    ∷ flags_byte e.service
    ∷ 0xFF
    ∷ []

-- an entry alone, W8: its value; W9: six bytes of room
unfoldable pub entry_written : ServiceEntry → List ℕ → Written
entry_written e buffer = written (verdict (entry_check e ∷ room_check entry_length (length buffer) ∷ [])) (entry_bytes e) buffer

-- an entry's header byte: a digital number is added to 80, field 1 has plain 80 and field 2 has 81
abbrev pub header_byte : FieldOrService → ℕ
header_byte (Field first) = cond first 0x80 0x81
header_byte (Service digital) = 0x80 + digital.service

-- the seven bytes of an entry in a section
abbrev pub seven_bytes : ServiceEntry → List ℕ
seven_bytes e = header_byte e.service ∷ entry_bytes e
