-- Time code, captions and services read back from the place where they stand.
-- Assumes nothing.
use mathlib.Core.Bool.{true}
use mathlib.Core.List.{List, [], ◌∷◌, ◌++◌}
use mathlib.Core.Path.{◌≡◌, ◌∙◌, sym, refl, ap, ap₂}
use Prim.Native.Nat.{ℕ, ◌+◌, ◌*◌, ◌/◌, ◌%◌, ◌≤◌}
use native.Mathlib.Nat.{add-zero}
use native.Mathlib.Omega.{arith}
use borrow.Author.Tests.{eq-eqb, le-leb, leb-true}
use lib.ListN.{drop, get_or, length}
use Rattle.values_time.proofs.TimeWrites.{time_back}
use Rattle.basis.proofs.Readings.{given_clear, given_value}
use Rattle.basis.proofs.Verdicts.{kept_at_lem, moved_clear, moved_verdict, verdict_moved}
use Rattle.basis.specs.Bytes.{byte}
use Rattle.basis.specs.Check.{Check, clear, verdict}
use Rattle.values.specs.Layout.{captions_id, services_id, time_code_id, section_length, time_code_size}
use Rattle.values_time.specs.Time.{time_bytes, time_checks, time_of, time_read, time_write_checks}
use Rattle.values_time.specs.Code.{InRange}
use Rattle.service_list.proofs.SectionBack.{byte_back, count_back, list_back_lem, named, named_moved, section_verdict}
use Rattle.service_list.proofs.SectionWrites.{section_length_lem}
use Rattle.service_list.specs.SectionBack.{Ready, all_of_three, before_field_two, names_field_two}
use Rattle.service_entries.specs.Entries.{section_checks}
use Rattle.service_list.specs.Section.{list_of}
use Rattle.service_list.specs.SectionWriting.{counted, section_byte, section_bytes}
use Rattle.read_captions.specs.Captions.{caption_count, captions_checks, captions_size, handed_out}
use Rattle.read_time_code.specs.TimeCode.{of_four, time_code_checks, time_code_in}
use Rattle.read_services.proofs.ServicesAlone.{FlagsOf, alone}
use Rattle.read_services.specs.Services.{services_part, services_checks, services_size}
use Rattle.write_bytes.specs.PacketWriting.{captions_bytes}
use Rattle.basis.proofs.Places.{byte_on, further_on, part_on}
use Rattle.theorem_packet.specs.RoundTrip.{captions_back, list_back}
use Rattle.service_list.specs.declared.list.ServiceInfo.{ServiceInfo}
use Rattle.values.specs.declared.flags.Flags.{Flags}
use Rattle.values_time.specs.declared.time.TimeCode.{TimeCode}

-- a time code that can be written is in range
in_range : (t : TimeCode) → verdict (time_write_checks t) ≡ clear → InRange t
in_range t h =
    record {
      hours = leb-true _ _ (kept_at_lem 0 (time_write_checks t) h);
      minutes = leb-true _ _ (kept_at_lem 1 (time_write_checks t) h);
      seconds = leb-true _ _ (kept_at_lem 2 (time_write_checks t) h);
      frames = leb-true _ _ (kept_at_lem 3 (time_write_checks t) h);
    }

module _ (p : List ℕ) (i : ℕ) (t : TimeCode) (rest : List ℕ) (h : drop i p ≡ time_code_id ∷ time_bytes t ++ rest)
    (right : verdict (time_write_checks t) ≡ clear) where
  abbrev at : ℕ → ℕ
  at k = get_or (time_bytes t) k 0

  four : verdict (time_checks (at 0) (at 1) (at 2) (at 3)) ≡ clear
  unfolding time_read
  four =
      given_clear _ (verdict (time_checks (at 0) (at 1) (at 2) (at 3))) (time_of (at 0) (at 1) (at 2) (at 3)) t
      (time_back t (in_range t right))

  value : time_of (at 0) (at 1) (at 2) (at 3) ≡ t
  unfolding time_read
  value =
      sym
      (given_value _ (verdict (time_checks (at 0) (at 1) (at 2) (at 3))) (time_of (at 0) (at 1) (at 2) (at 3)) t
      (time_back t (in_range t right)))

  abbrev bytes : List ℕ
  bytes = time_code_id ∷ time_bytes t ++ rest

  id : byte p i ≡ time_code_id
  id = rw add-zero at (byte_on p i bytes h 0)

  abbrev four_checks : List Check
  four_checks = of_four time_checks p i

  pub time_clear : i + time_code_size ≤ length p → verdict (time_code_checks p i) ≡ clear
  time_clear fits =
      let own : verdict four_checks ≡ clear = simp (byte_on p i bytes h 1, byte_on p i bytes h 2, byte_on p i bytes h 4) four in
      simp (le-leb _ _ fits, eq-eqb _ _ id) (verdict_moved (i + 1) four_checks ∙ moved_clear (i + 1) (verdict four_checks) own)

  pub time_value : time_code_in p i ≡ t
  time_value = simp (byte_on p i bytes h 1, byte_on p i bytes h 2, byte_on p i bytes h 3, byte_on p i bytes h 4) value

-- captions: as many triplets as three go into the run, and the run as it is
fixed_bits : (k : ℕ) → k ≤ 31 → (0xE0 + k) / 32 % 8 ≡ 7
fixed_bits k h = omega arith

module _ (p : List ℕ) (i : ℕ) (captions : List ℕ) (rest : List ℕ) (h : drop i p ≡ captions_bytes captions ++ rest)
    (short : length captions ≤ 93) (whole : length captions % 3 ≡ 0) where
  abbrev run : ℕ
  run = length captions

  header : byte p (i + 1) ≡ 0xE0 + run / 3
  header = byte_on p i (captions_bytes captions ++ rest) h 1

  pub count_is : caption_count p i ≡ run / 3
  count_is = omega (arith, header)

  pub size_is : captions_size p i ≡ 2 + run
  size_is = omega (arith, header)

  first : byte p i ≡ captions_id
  first = rw add-zero at (byte_on p i (captions_bytes captions ++ rest) h 0)

  pub captions_clear : i + (2 + run) ≤ length p → verdict (captions_checks p i) ≡ clear
  captions_clear fits =
      let fixed : byte p (i + 1) / 32 % 8 ≡ 7 = rw header (fixed_bits (run / 3) (omega arith)) in
      simp (
        le-leb (i + 2) (length p) (omega arith),
        eq-eqb _ _ first,
        eq-eqb _ _ fixed,
        le-leb (i + captions_size p i) (length p) (omega (arith, size_is)),
      )

  behind : drop (i + 2) p ≡ captions ++ rest
  behind = further_on p i (captions_id ∷ (0xE0 + run / 3) ∷ []) (captions ++ rest) h 2 refl

  pub captions_value : handed_out p i ≡ captions_back captions
  captions_value =
      let long : 3 * caption_count p i ≡ run = omega (arith, header) in
      ap₂ (λ (n : ℕ) (xs : List ℕ). (0xC0 + n) ∷ 0xFF ∷ xs) count_is
      (part_on p (i + 2) captions rest behind (3 * caption_count p i) long)

-- services: the section that was written, its list, and flags that agree with the header's
module _ (p : List ℕ) (i : ℕ) (l : ServiceInfo) (rest : List ℕ) (h : drop i p ≡ section_bytes l ++ rest)
    (r : Ready l) where
  second : byte p (i + 1) ≡ section_byte l
  unfolding section_bytes
  second = byte_on p i (section_bytes l ++ rest) h 1

  third : byte p i ≡ services_id
  unfolding section_bytes
  third = rw add-zero at (byte_on p i (section_bytes l ++ rest) h 0)

  pub section_size : services_size p i ≡ section_length l.count
  section_size = ap section_length (rw second (count_back l r))

  section_bytes_lem : services_part p i ≡ section_bytes l
  section_bytes_lem = part_on p i (section_bytes l) rest h (services_size p i) (section_size ∙ sym (section_length_lem l))

  pub list_value : all_of_three (counted l) ≡ true → list_of (services_part p i) ≡ list_back l
  list_value languages = ap list_of section_bytes_lem ∙ list_back_lem l r languages

  -- the header's flags are the list's
  flags_back : (f : Flags) → FlagsOf f l → FlagsOf f (list_of (services_part p i))
  flags_back f h =
      rw (section_bytes_lem, byte_back l r) (record { start = h.start; change = h.change; complete = h.complete })

  pub services_verdict : (f : Flags) → FlagsOf f l → i + section_length l.count ≤ length p
      → verdict (services_checks p f i) ≡ named (names_field_two (counted l)) (i + section_length (before_field_two (counted l)))
  services_verdict f flags fits =
      alone p f i (omega (arith, section_size, fits)) third (flags_back f flags)
      ∙ ap (λ (d : List ℕ). moved_verdict i (verdict (section_checks d))) section_bytes_lem
      ∙ ap (moved_verdict i) (section_verdict l r)
      ∙ named_moved i (names_field_two (counted l)) (section_length (before_field_two (counted l)))
