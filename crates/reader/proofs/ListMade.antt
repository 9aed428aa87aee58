-- The service list of a packet, made from the packet's own bytes: what the section's bytes hold, or nothing.
-- Assumes nothing.
use mathlib.Core.Bool.{Bool, true, false, cond}
use mathlib.Core.List.{List, ◌∷◌}
use mathlib.Core.Path.{◌≡◌, ◌∙◌, sym, refl, ap, ap₂}
use Prim.Native.Nat.{ℕ, zero, suc, ◌+◌, ◌-◌, ◌*◌, ◌/◌, ◌%◌, ◌≤◌, ◌<◌}
use native.Mathlib.Omega.{arith}
use lib.Dec.{eqb}
use lib.ListN.{length}
use Rattle.basis.proofs.Places.{byte_of_part}
use Rattle.basis.specs.Bytes.{byte, part}
use Rattle.basis.specs.Check.{clear, verdict}
use Rattle.service_entry.specs.Entry.{entry_of}
use Rattle.service_entries.specs.Entries.{count_of, entries_of, filled, six_behind}
use Rattle.service_list.proofs.SectionReads as Lists
use Rattle.service_list.specs.Section.{list_of, list_with}
use Rattle.service_list.specs.ServiceList.{list, list_absent, list_present}
use Rattle.read_services.proofs.ServicesReads.{byte_one, count_at, section_there}
use Rattle.read_services.specs.Services.{services_part, services_checks, services_of, services_size}
use Rattle.service_entry.specs.declared.entry.ServiceEntry.{ServiceEntry}
use Rattle.service_list.specs.declared.list.MaybeServiceInfo.{MaybeServiceInfo}
use Rattle.values.specs.declared.flags.Flags.{Flags}
use Rattle.values.specs.Layout.{section_entry_size, section_head_size}

-- entries of a part of a packet are entries of the packet
module _ (p : List ℕ) (i size : ℕ) where
  abbrev inside : List ℕ
  inside = part i size p

  same_byte : (at j : ℕ) → at + j < size → byte p (i + at + j) ≡ byte inside (at + j)
  same_byte at j h =
      let e : i + at + j ≡ i + (at + j) = omega arith in
      ap (byte p) e ∙ sym (byte_of_part p i size (at + j) h)

  same_six : (at : ℕ) → at + section_entry_size ≤ size → six_behind p (i + at) ≡ six_behind inside at
  same_six at h =
      rw (
        same_byte at 1 (omega arith),
        same_byte at 2 (omega arith),
        same_byte at 3 (omega arith),
        same_byte at 4 (omega arith),
        same_byte at 5 (omega arith),
        same_byte at 6 (omega arith),
      )

  pub entries_inside : (at n : ℕ) → at + section_entry_size * n ≤ size → entries_of p (i + at) n ≡ entries_of inside at n
  entries_inside at zero h = refl
  entries_inside at (suc n) h =
      let e : i + at + section_entry_size ≡ i + (at + section_entry_size) = omega arith in
      ap₂ (λ (x : ServiceEntry) (xs : List ServiceEntry). x ∷ xs) (ap entry_of (same_six at (omega arith)))
      (ap (λ (k : ℕ). entries_of p k n) e ∙ entries_inside (at + section_entry_size) n (omega arith))

-- what stands behind the section's byte 1, where the section is right; and no entry where there is none
module _ (p : List ℕ) (f : Flags) (i : ℕ) where
  -- the section's byte 1, or 0
  abbrev pub header_of : Bool → ℕ
  header_of on = cond on (byte p (i + 1)) 0

  -- the list, as the code has it
  abbrev made : Bool → MaybeServiceInfo
  made on =
      record {
        present = on;
        service_info =
            list (eqb (header_of on / 64 % 2) 1) (eqb (header_of on / 32 % 2) 1) (eqb (header_of on / 16 % 2) 1)
            (filled (entries_of p (i + section_head_size) (header_of on % 16))) (header_of on % 16);
      }

  module _ (kept : verdict (services_checks p f i) ≡ clear) where
    there : i + services_size p i ≤ length p
    there = section_there p f i kept

    count_is : count_of (services_part p i) ≡ byte p (i + 1) % 16
    count_is = omega (arith, count_at p i)

    list_inside : made true ≡ list_present (list_of (services_part p i))
    list_inside =
        let places : entries_of p (i + section_head_size) (byte p (i + 1) % 16)
        ≡ entries_of (services_part p i) 2 (count_of (services_part p i)) =
        entries_inside p i (services_size p i) 2 (byte p (i + 1) % 16) (omega arith)
        ∙ ap (entries_of (services_part p i) 2) (sym count_is) in
        ap list_present
        (Lists.with_is (byte p (i + 1)) (filled (entries_of p (i + section_head_size) (byte p (i + 1) % 16)))
        ∙ ap₂ list_with (sym (byte_one p i)) (ap filled places)
        ∙ Lists.list_is (services_part p i))

  list_absent_lem : made false ≡ list_absent
  unfolding filled
  list_absent_lem = refl

  fits : (on : Bool) → (on ≡ true → verdict (services_checks p f i) ≡ clear)
      → section_entry_size * (header_of on % 16) ≤ length p - (i + section_head_size)
  fits true kept = omega (arith, there (kept refl))
  fits false kept = omega arith

  is : (on : Bool) → (on ≡ true → verdict (services_checks p f i) ≡ clear) → made on ≡ services_of p on i
  is true kept = list_inside (kept refl)
  is false kept = list_absent_lem

  module _ (kept : f.svc_info ≡ true → verdict (services_checks p f i) ≡ clear) where
    pub header_there : f.svc_info ≡ true → i + 1 + 1 ≤ length p
    header_there on = omega (arith, there (kept on))

    pub entries_fit : section_entry_size * (header_of f.svc_info % 16) ≤ length p - (i + section_head_size)
    entries_fit = fits f.svc_info kept

    pub list_is : made f.svc_info ≡ services_of p f.svc_info i
    list_is = is f.svc_info kept
