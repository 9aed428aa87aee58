-- Follows the code and not the rules: the steps in which a section is tested, and its entries as they are read before the list is made.
use Rattle.std.specs.Prelude.{List, ◌≡◌, ℕ, Result, ◌/◌, ◌%◌, length}
use Rattle.basis.specs.Bytes.{byte}
use Rattle.basis.specs.Check.{read_as, verdict}
use Rattle.values.specs.Layout.{section_head_size, section_length, services_id}
use Rattle.service_entries.specs.Entries.{checks_at, filled, count_of, entries_of, section_checks}
use Rattle.basis.specs.Code.{outcome}
use Rattle.basis.specs.declared.refusal.Refused.{Refused}
use Rattle.service_entry.specs.declared.entry.ServiceEntry.{ServiceEntry}

-- S1 to S4 as one fact: what holds where the entries are tested
pub record Framed (d : List ℕ) (header : ℕ) : Type 0 where
  pub id : byte d 0 ≡ services_id
  pub first : byte d 1 ≡ header
  pub fixed : header / 128 % 2 ≡ 1
  pub size : length d ≡ section_length (header % 16)

-- what testing a header byte and its entry gives, its place counted from the header byte
unfoldable pub entry_outcome : List ℕ → ℕ → Result Unit Refused
entry_outcome d at = outcome (verdict (checks_at d at))

-- what testing a section alone gives
unfoldable pub section_outcome : List ℕ → Result Unit Refused
section_outcome d = outcome (verdict (section_checks d))

-- what reading its entries gives; a refusal gives none
unfoldable pub entries_read : List ℕ → Result (List ServiceEntry) Refused
entries_read d = read_as (verdict (section_checks d)) (filled (entries_of d section_head_size (count_of d)))
