-- Reading a section: where its entries are refused, and where they are read, the list is what the definition gives.
-- Assumes nothing.
use mathlib.Core.Path.{◌≡◌, refl}
use mathlib.Core.List.{List}
use Prim.Native.Nat.{ℕ, ◌/◌, ◌%◌, ◌≤◌}
use native.Mathlib.Omega.{arith}
use borrow.Author.Tests.{leb-true}
use lib.Dec.{eqb}
use lib.ListN.{length}
use Rattle.basis.proofs.Verdicts.{kept_at_lem}
use Rattle.basis.proofs.Readings.{given_clear, given_value, refused_alone}
use Rattle.std.specs.Prelude.{Ok, Err}
use Rattle.basis.specs.declared.refusal.Refused.{Refused}
use Rattle.basis.specs.Bytes.{byte}
use Rattle.basis.specs.Check.{clear, verdict}
use Rattle.service_entries.specs.Entries.{count_of, entries_of, filled, section_checks}
use Rattle.service_entries.specs.Code.{entries_read}
use Rattle.service_list.specs.Section.{list_of, list_with, section_read}
use Rattle.service_list.specs.ServiceList.{list}
use Rattle.service_entry.specs.declared.entry.ServiceEntry.{ServiceEntry}

pub with_is : (header : ℕ) (services : List ServiceEntry)
    → list (eqb (header / 64 % 2) 1) (eqb (header / 32 % 2) 1) (eqb (header / 16 % 2) 1) services (header % 16)
    ≡ list_with header services
with_is header services =
    let n : header / 1 % 16 ≡ header % 16 = omega arith in
    rw n

pub list_is : (d : List ℕ) → list_with (byte d 1) (filled (entries_of d 2 (count_of d))) ≡ list_of d
unfolding list_of
list_is d = refl

module _ (d : List ℕ) where
  pub list_refused : (r : Refused) → entries_read d ≡ Err r → Err r ≡ section_read d
  unfolding entries_read section_read
  list_refused r h =
      refused_alone _ (verdict (section_checks d)) (filled (entries_of d 2 (count_of d))) (list_of d) r h

  module _ (services : List ServiceEntry) (read : entries_read d ≡ Ok services) where
    all_clear : verdict (section_checks d) ≡ clear
    unfolding entries_read
    all_clear = given_clear _ (verdict (section_checks d)) (filled (entries_of d 2 (count_of d))) services read

    held : services ≡ filled (entries_of d 2 (count_of d))
    unfolding entries_read
    held = given_value _ (verdict (section_checks d)) (filled (entries_of d 2 (count_of d))) services read

    pub two_bytes : 2 ≤ length d
    unfolding section_checks
    two_bytes = leb-true _ _ (kept_at_lem 0 (section_checks d) all_clear)

    pub list_read : Ok (list_with (byte d 1) services) ≡ section_read d
    unfolding section_read
    list_read = rw (all_clear, held, list_is d)
