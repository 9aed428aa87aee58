-- Rules E1 to E4: an entry, six bytes read.
use Rattle.std.specs.Prelude.{cond, not, List, [], ◌∷◌, ℕ, Result, eqb}
use Rattle.basis.specs.declared.refusal.Refusal.TheVariants.{InvalidFixedBits, InvalidServiceNumber}
use Rattle.basis.specs.Bytes.{byte}
use Rattle.basis.specs.Check.{Check, check_at, read_as, verdict}
use Rattle.basis.specs.declared.refusal.Refused.{Refused}
use Rattle.basis.specs.declared.test.ByteTest.TheVariants.{KindFixed, KindNumber, KindField, EntryFlags, EntryEnd}
use Rattle.basis.specs.declared.test.Test.TheVariants.{Byte}
use Rattle.basis.specs.Mask.{under, all_set, all_clear, x80, x40, x3f, x3e, x01}
use Rattle.service_entry.specs.Service.{digital_entry, entry}
use Rattle.service_entry.specs.declared.entry.ServiceEntry.{ServiceEntry}
use Rattle.service_entry.specs.declared.service.FieldOrService.{FieldOrService}
use Rattle.service_entry.specs.declared.service.FieldOrService.TheVariants.{Field, Service}

-- E2a: with 80, byte 3 is digital and its low six bits are a number other than 0; E2b: without, it is a field and has 3E
abbrev pub kind_check : ℕ → Check
kind_check kind =
    cond (all_set x80 kind)
    (check_at 3 (Byte KindNumber) (not (all_clear x3f kind)) InvalidServiceNumber)
    (check_at 3 (Byte KindField) (all_set x3e kind) InvalidFixedBits)

-- E1: byte 3 has 40; E2: what it names; E3: byte 4 has 3F; E4: byte 5 is FF
abbrev pub entry_checks : List ℕ → List Check
entry_checks e =
    check_at 3 (Byte KindFixed) (all_set x40 (byte e 3)) InvalidFixedBits
    ∷ kind_check (byte e 3)
    ∷ check_at 4 (Byte EntryFlags) (all_set x3f (byte e 4)) InvalidFixedBits
    ∷ check_at 5 (Byte EntryEnd) (eqb (byte e 5) 0xFF) InvalidFixedBits
    ∷ []

-- E2, E3: the number, easy reader in 80 and wide in 40 of byte 4; or the field, 1 where bit 01 is clear, with both dropped
abbrev pub service_of : ℕ → ℕ → FieldOrService
service_of kind flags =
    cond (all_set x80 kind)
    (Service (digital_entry (under x3f kind) (all_set x80 flags) (all_set x40 flags)))
    (Field (all_clear x01 kind))

-- the first three bytes are the language
abbrev pub entry_of : List ℕ → ServiceEntry
entry_of e = entry (byte e 0 ∷ byte e 1 ∷ byte e 2 ∷ []) (service_of (byte e 3) (byte e 4))

-- what reading the six bytes gives; a refusal gives no entry
unfoldable pub entry_read : List ℕ → Result ServiceEntry Refused
entry_read e = read_as (verdict (entry_checks e)) (entry_of e)
