-- Rule 7, test by test: what the definition gives where a test is the first that fails, and where none does; and where the
-- place of what is refused stands.
-- Assumes nothing.
use mathlib.Core.Bool.{Bool, beq, not, true, false}
use mathlib.Core.List.{List, [], ◌∷◌}
use mathlib.Core.Path.{◌≡◌, ◌∙◌, sym, ap}
use Prim.Native.Nat.{ℕ, ◌+◌, ◌-◌, ◌/◌, ◌%◌, ◌≤◌, ◌<◌}
use native.Mathlib.Omega.{arith}
use borrow.Author.Tests.{eq-eqb, ne_eqb, le-leb, leb-true, lt-leb, lt-ltb, not-true, not-false}
use lib.Dec.{eqb}
use lib.ListN.{drop, length, length-drop, length-take}
use lib.Seq.{length-take-le}
use Rattle.basis.proofs.Holds.{Inside, at_size, both, fixed, none, part_inside}
use Rattle.basis.proofs.Places.{byte_of_part}
use Rattle.basis.proofs.Readings.{given_clear, refused_first, refused_moved}
use Rattle.basis.proofs.Verdicts.{and_then, kept_at_lem, moved_verdict, verdict_append, verdict_moved}
use Rattle.basis.specs.declared.refusal.Refusal.TheVariants.{LengthMismatch, ServiceFlagsMismatched, WrongMagic}
use Rattle.basis.specs.declared.refusal.Refused.{Refused}
use Rattle.std.specs.Prelude.{Ok, Err}
use Rattle.basis.specs.Bytes.{byte, part}
use Rattle.basis.specs.Check.{Check, Verdict, check_at, clear, moved, read_place, refused_at, verdict}
use Rattle.basis.specs.declared.test.ByteTest.TheVariants.{ServicesFlags}
use Rattle.basis.specs.declared.test.Test.TheVariants.{Byte}
use Rattle.basis.specs.Code.{tested}
use Rattle.values.specs.Layout.{section_length}
use Rattle.basis.specs.Mask.{under, x0f}
use Rattle.service_entries.proofs.SectionPlaces.{section_near, section_within}
use Rattle.service_entries.specs.Entries.{count_of, section_checks}
use Rattle.service_entries.specs.Code.{section_outcome}
use Rattle.service_list.specs.Section.{list_of, list_with}
use Rattle.read_services.specs.Services.{same_flags, services_part, services_checks, services_size}
use Rattle.read_services.specs.Code.{services_tested}
use Rattle.values.specs.declared.flags.Flags.{Flags}

-- the three flags of byte 1, one after the other
module _ (b : ℕ) (f : Flags) where
  abbrev same_start : Bool
  same_start = beq (eqb (b / 64 % 2) 1) f.svc_info_start

  abbrev same_change : Bool
  same_change = beq (eqb (b / 32 % 2) 1) f.svc_info_change

  pub start_differs : not same_start ≡ true → false ≡ same_flags (list_with b []) f
  unfolding same_flags
  start_differs a = simp (not-true same_start a)

  module _ (start : not same_start ≡ false) where
    pub change_differs : not same_change ≡ true → false ≡ same_flags (list_with b []) f
    unfolding same_flags
    change_differs a = simp (not-false same_start start, not-true same_change a)

    pub complete_decides : not same_change ≡ false
        → beq (eqb (b / 16 % 2) 1) f.svc_info_complete ≡ same_flags (list_with b []) f
    unfolding same_flags
    complete_decides a = simp (not-false same_start start, not-false same_change a)

-- byte 1 of a section in a packet, and the count that it has
pub byte_one : (p : List ℕ) (i : ℕ) → byte (services_part p i) 1 ≡ byte p (i + 1)
byte_one p i = byte_of_part p i (services_size p i) 1 (omega arith)

pub count_at : (p : List ℕ) (i : ℕ) → count_of (services_part p i) ≡ under x0f (byte p (i + 1))
count_at p i = ap (under x0f) (byte_one p i)

-- what a section is refused for has its place in the section or at its end, as the code has its bytes
pub near : (p : List ℕ) (i header : ℕ)
    → read_place (section_outcome (part i (i + section_length (header % 16) - i) p)) ≤ section_length 15
near p i header =
    let size : ℕ = i + section_length (header % 16) - i in
    let long : length (part i size p) ≤ size = simp length-take (omega arith) in
    omega (arith, section_near (part i size p), long)

-- so is that of a refusal that was given
pub near_refused : (p : List ℕ) (i header : ℕ) (r : Refused) → section_outcome (part i (i + section_length (header % 16) - i) p) ≡ Err r
    → r.place ≤ section_length 15
near_refused p i header r h = rw (← ap read_place h) (near p i header)

-- in a packet its bytes are as many as it says, so that S4 refuses none
own_size : (p : List ℕ) (i : ℕ) → i + services_size p i ≤ length p → length (services_part p i) ≡ services_size p i
own_size p i fits = length-take-le (services_size p i) (drop i p) (omega (arith, length-drop i p))

pub as_long : (p : List ℕ) (i : ℕ) → i + services_size p i ≤ length p
    → length (services_part p i) ≡ section_length (count_of (services_part p i))
as_long p i fits = own_size p i fits ∙ sym (ap section_length (count_at p i))

module _ (p : List ℕ) (f : Flags) (i : ℕ) where
  -- the section's size, as the code has it
  abbrev pub size : ℕ
  size = section_length (byte p (i + 1) % 16)

  as_count : byte p (i + 1) / 1 % 16 ≡ byte p (i + 1) % 16
  as_count = omega arith

  -- the section's bytes, as the code has them
  abbrev pub bytes : List ℕ
  bytes = part i (i + size - i) p

  as_size : i + size - i ≡ size
  as_size = omega arith

  -- 7.4 of them
  abbrev flags_test : Check
  flags_test = check_at 4 (Byte ServicesFlags) (same_flags (list_of bytes) f) ServiceFlagsMismatched

  pub not_there : f.svc_info ≡ false → Ok 0 ≡ services_tested p f i
  unfolding services_tested
  not_there a = simp a

  module _ (there : f.svc_info ≡ true) where
    pub too_short : length p < i + 2 → Err (refused_at (LengthMismatch (i + 2) (length p)) (length p)) ≡ services_tested p f i
    unfolding services_tested
    too_short a = simp (there, lt-leb _ _ a)

    module _ (long : i + 2 ≤ length p) where
      pub other_id : (byte p i ≡ 0x73 → ⊥) → Err (refused_at WrongMagic i) ≡ services_tested p f i
      unfolding services_tested
      other_id a = simp (there, le-leb _ _ long, ne_eqb _ _ a)

      module _ (id : byte p i ≡ 0x73) where
        pub entries_cut : length p < i + size
            → Err (refused_at (LengthMismatch (i + size) (length p)) (length p)) ≡ services_tested p f i
        unfolding services_tested
        entries_cut a = simp (there, le-leb _ _ long, eq-eqb _ _ id, as_count, lt-leb _ _ a)

        module _ (fits : i + size ≤ length p) where
          -- behind the section's own rules stands the test of the flags
          as_parts : tested (and_then (moved_verdict i (verdict (section_checks bytes))) (verdict (flags_test ∷ []))) size
              ≡ services_tested p f i
          unfolding services_tested
          as_parts =
              ap (λ (v : Verdict). tested (and_then v (verdict (flags_test ∷ []))) size)
              (sym (verdict_moved i (section_checks bytes)))
              ∙ ap (λ (v : Verdict). tested v size) (sym (verdict_append (moved i (section_checks bytes)) (flags_test ∷ [])))
              ∙ simp (there, le-leb _ _ long, eq-eqb _ _ id, as_count, as_size, le-leb _ _ fits)

          pub section_refused : (r : Refused) → section_outcome bytes ≡ Err r
              → Err (refused_at r.refusal (i + r.place)) ≡ services_tested p f i
          unfolding section_outcome
          section_refused r h =
              let own : Verdict = verdict (section_checks bytes) in
              refused_first _ (moved_verdict i own) (verdict (flags_test ∷ [])) size size _ (sym (refused_moved i own tt size r h)) ∙ as_parts

          -- byte 1 of the section, as the code has it, has the list's flags
          the_flags : same_flags (list_with (byte p (i + 1)) []) f ≡ same_flags (list_of bytes) f
          unfolding same_flags list_of
          the_flags =
              let second : byte bytes 1 ≡ byte p (i + 1) = byte_of_part p i (i + size - i) 1 (omega arith) in
              rw second

          module _ (u : Unit) (kept : section_outcome bytes ≡ Ok u) where
            own_clear : verdict (section_checks bytes) ≡ clear
            unfolding section_outcome
            own_clear = given_clear _ (verdict (section_checks bytes)) tt u kept

            pub other_flags : same_flags (list_with (byte p (i + 1)) []) f ≡ false
                → Err (refused_at ServiceFlagsMismatched 4) ≡ services_tested p f i
            other_flags h =
                let differ : same_flags (list_of bytes) f ≡ false = sym the_flags ∙ h in
                simp (own_clear, differ) at as_parts

            pub services_whole : same_flags (list_with (byte p (i + 1)) []) f ≡ true → Ok size ≡ services_tested p f i
            services_whole h =
                let agree : same_flags (list_of bytes) f ≡ true = sym the_flags ∙ h in
                simp (own_clear, agree) at as_parts

  -- an accepted section has all its bytes
  pub section_there : verdict (services_checks p f i) ≡ clear → i + services_size p i ≤ length p
  section_there h = leb-true _ _ (kept_at_lem 2 (services_checks p f i) h)

  -- every refusal's place is inside a packet that has a byte 4, or its end beside 1
  pub services_inside : 5 ≤ length p → Inside (length p) (services_checks p f i)
  services_inside five =
      let own : List ℕ = services_part p i in
      at_size p (i + 2)
      (λ two. fixed (lt-ltb i (length p) (omega arith))
      (at_size p (i + services_size p i)
      (λ fits. both (moved i (section_checks own)) _
      (part_inside true i (length own) (length p) (section_checks own) (omega (arith, own_size p i fits))
      (section_within own (as_long p i fits)))
      (fixed (lt-ltb 4 (length p) (omega arith)) none))))
