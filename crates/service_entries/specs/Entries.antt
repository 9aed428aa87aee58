-- Rules S1 to S8: the checks of a section, and the entries that it holds.
use Rattle.std.specs.Prelude.{cond, not, ◌||◌, List, [], ◌∷◌, ◌++◌, ℕ, zero, suc, ◌+◌, ◌-◌, eqb, length, replicate}
use Rattle.basis.specs.declared.refusal.Refusal.TheVariants.{LengthMismatch, WrongMagic, InvalidFixedBits, ServiceNumberMismatch}
use Rattle.basis.specs.Bytes.{byte}
use Rattle.basis.specs.Check.{Check, check_at, moved, size_check}
use Rattle.basis.specs.declared.test.SizeTest.TheVariants.{SectionHead, SectionSize}
use Rattle.basis.specs.declared.test.ByteTest.TheVariants.{SectionId, SectionFixed, HeaderFixed, HeaderForm, HeaderNumber}
use Rattle.basis.specs.declared.test.Test.TheVariants.{Size, Byte}
use Rattle.basis.specs.Mask.{under, all_set, x80, x40, x20, x3f, x1f, x0f}
use Rattle.values.specs.Layout.{section_entry_size, section_head_size, section_length, services_id}
use Rattle.service_entry.specs.Entry.{entry_checks, entry_of}
use Rattle.service_entry.specs.Service.{filler, number_of}
use Rattle.service_entry.specs.declared.entry.ServiceEntry.{ServiceEntry}

-- how many entries a list has places for
abbrev pub places : ℕ
places = 15

-- the entries in the first places, the filler in the others
unfoldable pub filled : List ServiceEntry → List ServiceEntry
filled entries = entries ++ replicate (places - length entries) filler

abbrev pub fillers : List ServiceEntry
fillers = replicate places filler

-- S4: the count of entries is the low four bits of byte 1
abbrev pub count_of : List ℕ → ℕ
count_of d = under x0f (byte d 1)

-- S1: two bytes; S2: 73; S3: bit 80 of byte 1; S4: seven bytes for each entry behind these two
abbrev pub frame_checks : List ℕ → List Check
frame_checks d =
    size_check SectionHead d section_head_size
    ∷ check_at 0 (Byte SectionId) (eqb (byte d 0) services_id) WrongMagic
    ∷ check_at 1 (Byte SectionFixed) (all_set x80 (byte d 1)) InvalidFixedBits
    ∷ check_at (length d) (Size SectionSize) (eqb (length d) (section_length (count_of d))) (LengthMismatch (section_length (count_of d)) (length d))
    ∷ []

-- S6: with 40 the low five bits of an entry's header byte, without it the low six
abbrev pub named_by : ℕ → ℕ
named_by header = cond (all_set x40 header) (under x1f header) (under x3f header)

-- the six bytes behind the header byte at a place
abbrev pub six_behind : List ℕ → ℕ → List ℕ
six_behind d at = byte d (at + 1) ∷ byte d (at + 2) ∷ byte d (at + 3) ∷ byte d (at + 4) ∷ byte d (at + 5) ∷ byte d (at + 6) ∷ []

-- S8: the number that the header byte at a place names is the one that the entry holds
abbrev pub number_check : List ℕ → ℕ → Check
number_check d at = check_at 0 (Byte HeaderNumber) (eqb (named_by (byte d at)) (number_of (entry_of (six_behind d at)).service)) ServiceNumberMismatch

-- at a place, S5: bit 80; S6: with 40 also 20; S7: the entry's own rules; S8; places are counted from the header byte
abbrev pub checks_at : List ℕ → ℕ → List Check
checks_at d at =
    check_at 0 (Byte HeaderFixed) (all_set x80 (byte d at)) InvalidFixedBits
    ∷ check_at 0 (Byte HeaderForm) (not (all_set x40 (byte d at)) || all_set x20 (byte d at)) InvalidFixedBits
    ∷ moved 1 (entry_checks (six_behind d at))
    ++ number_check d at ∷ []

-- so many entries from a place on, first to last: their checks, and what they hold
abbrev pub entry_list_checks : List ℕ → ℕ → ℕ → List Check
entry_list_checks d at zero = []
entry_list_checks d at (suc n) = moved at (checks_at d at) ++ entry_list_checks d (at + section_entry_size) n

abbrev pub entries_of : List ℕ → ℕ → ℕ → List ServiceEntry
entries_of d at zero = []
entries_of d at (suc n) = entry_of (six_behind d at) ∷ entries_of d (at + section_entry_size) n

unfoldable pub section_checks : List ℕ → List Check
section_checks d = frame_checks d ++ entry_list_checks d section_head_size (count_of d)
