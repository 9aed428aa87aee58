-- The test that a packet's answer and its place leave is the one that it fails first.
-- Assumes nothing.
use mathlib.Core.Bool.{Bool, true, false, cond}
use mathlib.Core.List.{List, [], ◌++◌}
use mathlib.Core.Path.{◌≡◌, ◌∙◌, refl, ap}
use Prim.Native.Nat.{ℕ, zero, suc, ◌+◌, ◌≤◌, ◌<◌}
use native.Mathlib.Omega.{arith}
use borrow.Author.Tests.{eqb-false, eqb-true, le-ltb, leb-false, leb-true, lt-ltb}
use lib.Dec.{eqb}
use lib.ListN.{length}
use Rattle.basis.proofs.Holds.{Holds, also, behind, both, fixed, if_there, none, where_moved}
use Rattle.basis.proofs.Places.{byte_of_part}
use Rattle.basis.proofs.Verdicts.{kept_at_lem}
use Rattle.basis.specs.Answer.{refused}
use Rattle.basis.specs.Bytes.{byte}
use Rattle.basis.specs.Check.{Check, clear, moved, verdict, when}
use Rattle.basis.specs.declared.refusal.Refusal.{Refusal}
use Rattle.basis.specs.declared.refusal.Refusal.TheVariants.{
  BufferTooShort,
  ChecksumFailed,
  InvalidFixedBits,
  InvalidServiceNumber,
  LengthMismatch,
  NotWritable,
  SequenceCountMismatch,
  ServiceFlagsMismatched,
  ServiceNumberMismatch,
  UnknownFramerate,
  WouldOverflow,
  WrongCaptionRun,
  WrongMagic,
}
use Rattle.basis.specs.declared.test.ByteTest.TheVariants.{CaptionsFixed, CaptionsId, FutureId, SectionFixed, ServicesId, TimeId}
use Rattle.basis.specs.declared.test.SizeTest.{SizeTest}
use Rattle.basis.specs.declared.test.Test.TheVariants.{Byte, Size}
use Rattle.values.specs.Layout.{section_length}
use Rattle.service_entries.specs.Entries.{count_of, section_checks}
use Rattle.read_header.specs.Header.{flags_in, header_checks, sequence_in}
use Rattle.read_time_code.specs.TimeCode.{of_four, time_code_checks}
use Rattle.values_time.specs.Time.{time_checks}
use Rattle.read_captions.proofs.CaptionsReads.{captions_there}
use Rattle.read_captions.specs.Captions.{captions_checks, captions_size}
use Rattle.read_services.proofs.ServicesReads.{as_long, count_at, section_there}
use Rattle.read_services.specs.Services.{services_checks, services_part, services_size}
use Rattle.read_closing.specs.Closing.{closing_checks, footer_checks, footer_from, future_checks, future_checks_at, future_length}
use Rattle.read_packet.specs.Packet.{captions_at, closing_at, packet_checks, services_at, time_code_at}
use Rattle.explain_find.proofs.Layouts.{behind_time, no_captions, no_services, no_time}
use Rattle.explain_find.proofs.ClosingFound.{Come, comes_on, ends_behind, ends_in_footer, ends_in_future, sets_out}
use Rattle.explain_find.proofs.SizesFound as Sizes
use Rattle.values.specs.declared.flags.Flags.{Flags}
use Rattle.explain_find.specs.Code.{bits_test, closing_test, id_test, test_from, test_left, time_test}
use Rattle.explain_find.proofs.EntriesFound.{entries_found}
use Rattle.explain_find.proofs.Leaves.{Found, FoundAt, of_bits, of_checksum, of_flags, of_id, of_magic, of_rate, of_sequence, of_size}

module _ (p : List ℕ) where
  header_found : Holds (Found p) (header_checks p)
  header_found =
      also (λ k. of_size p (length p) (Sizes.too_few p (leb-false 11 (length p) k)))
      (λ k. fixed (of_magic p)
      (also (λ other. of_size p (length p) (Sizes.other_size p (leb-true 11 (length p) k) (eqb-false _ _ other)))
      (λ _. fixed (of_rate p 3) none)))

  -- what is kept where a part is reached
  module _ (enough : 11 ≤ length p) (said : byte p 2 ≡ length p) where
    module _ (on : (flags_in p).time_code ≡ true) where
      in_four : (place : ℕ) → place < 12 → test_from p 4 place ≡ Byte (time_test place)
      unfolding bits_test
      in_four place h =
          let so : bits_test p place ≡ time_test place = simp (lt-ltb place (captions_at p) (omega (arith, h, behind_time p on))) in
          of_bits p place ∙ ap Byte so

      time_id : test_from p 2 7 ≡ Byte TimeId
      unfolding id_test
      time_id =
          let so : id_test p 7 ≡ TimeId = simp (lt-ltb 7 (captions_at p) (omega (arith, behind_time p on))) in
          of_id p 7 (omega arith) ∙ ap Byte so

      four_found : (a b c d : ℕ) → Holds (FoundAt p (λ o. 8 + o)) (time_checks a b c d)
      unfolding time_test
      four_found a b c d =
          fixed (in_four 8 (omega arith)) (fixed (in_four 9 (omega arith)) (fixed (in_four 11 (omega arith)) none))

      time_found : Holds (Found p) (time_code_checks p time_code_at)
      time_found =
          also
          (λ k. of_size p (length p)
          (Sizes.in_time p enough said (omega (arith, leb-false 12 (length p) k, behind_time p on))))
          (λ _. fixed time_id
          (where_moved 8 (of_four time_checks p 7) (λ rule h. h)
          (four_found (byte p 8) (byte p 9) (byte p 10) (byte p 11))))

    module _ (time : captions_at p ≤ length p) where
      module _ (on : (flags_in p).cc_data ≡ true) where
        captions_end : services_at p ≡ captions_at p + captions_size p (captions_at p)
        captions_end = rw on

        captions_id : test_from p 2 (captions_at p) ≡ Byte CaptionsId
        unfolding id_test
        captions_id =
            let so : id_test p (captions_at p) ≡ CaptionsId =
            simp (
              le-ltb (captions_at p) (captions_at p) (omega arith),
              lt-ltb (captions_at p) (services_at p) (omega (arith, captions_end)),
            ) in
            of_id p (captions_at p) (omega arith) ∙ ap Byte so

        captions_fixed : test_from p 4 (captions_at p + 1) ≡ Byte CaptionsFixed
        unfolding bits_test
        captions_fixed =
            let so : bits_test p (captions_at p + 1) ≡ CaptionsFixed =
            simp (
              le-ltb (captions_at p + 1) (captions_at p) (omega arith),
              lt-ltb (captions_at p + 1) (services_at p) (omega (arith, captions_end)),
            ) in
            of_bits p (captions_at p + 1) ∙ ap Byte so

        captions_found : Holds (Found p) (captions_checks p (captions_at p))
        captions_found =
            let at : ℕ = captions_at p in
            also
            (λ k. let short : length p < at + 2 = leb-false (at + 2) (length p) k in
            of_size p (length p)
            (Sizes.at_captions p enough said time (omega (arith, short, captions_end)) short))
            (λ k. fixed captions_id
            (fixed captions_fixed
            (also
            (λ cut. of_size p (length p)
            (Sizes.in_captions p enough said time
            (omega (arith, captions_end, leb-false (at + captions_size p at) (length p) cut))
            (leb-true (at + 2) (length p) k)))
            (λ _. none))))

      module _ (captions : services_at p ≤ length p) where
        module _ (on : (flags_in p).svc_info ≡ true) where
          services_end : closing_at p ≡ services_at p + services_size p (services_at p)
          services_end = rw on

          services_id : test_from p 2 (services_at p) ≡ Byte ServicesId
          unfolding id_test
          services_id =
              let so : id_test p (services_at p) ≡ ServicesId =
              simp (
                le-ltb (services_at p) (captions_at p) (omega arith),
                le-ltb (services_at p) (services_at p) (omega arith),
                lt-ltb (services_at p) (closing_at p) (omega (arith, services_end)),
              ) in
              of_id p (services_at p) (omega arith) ∙ ap Byte so

          section_fixed : test_from p 4 (services_at p + 1) ≡ Byte SectionFixed
          unfolding bits_test
          section_fixed =
              let so : bits_test p (services_at p + 1) ≡ SectionFixed =
              simp (
                le-ltb (services_at p + 1) (captions_at p) (omega arith),
                le-ltb (services_at p + 1) (services_at p) (omega arith),
                lt-ltb (services_at p + 1) (services_at p + 2) (omega arith),
              ) in
              of_bits p (services_at p + 1) ∙ ap Byte so

          module _ (fits : services_at p + services_size p (services_at p) ≤ length p) (id : byte p (services_at p) ≡ 0x73) where
            abbrev own : List ℕ
            own = services_part p (services_at p)

            long : length own ≡ section_length (count_of own)
            long = as_long p (services_at p) fits

            own_id : byte own 0 ≡ 0x73
            own_id =
                byte_of_part p (services_at p) (services_size p (services_at p)) 0 (omega arith)
                ∙ ap (byte p) (omega arith)
                ∙ id

            section_found : Holds (FoundAt p (λ o. services_at p + o)) (section_checks own)
            unfolding section_checks
            section_found =
                also (λ k. absurd (omega (arith, leb-false 2 (length own) k, long)))
                (λ _. also (λ k. absurd (eqb-false (byte own 0) 0x73 k own_id))
                (λ _. fixed section_fixed
                (also (λ k. absurd (eqb-false (length own) (section_length (count_of own)) k long))
                (λ _. entries_found p (count_of own) 2 0 (omega arith)
                (omega (arith, ap section_length (count_at p (services_at p))))))))

          services_found : Holds (Found p) (services_checks p (flags_in p) (services_at p))
          services_found =
              let i : ℕ = services_at p in
              also
              (λ k. let short : length p < i + 2 = leb-false (i + 2) (length p) k in
              of_size p (length p)
              (Sizes.at_services p enough said time captions (omega (arith, short, services_end)) short))
              (λ k. also (λ _. services_id)
              (λ id. also
              (λ cut. of_size p (length p)
              (Sizes.in_services p enough said time captions
              (omega (arith, services_end, leb-false (i + services_size p i) (length p) cut))
              (leb-true (i + 2) (length p) k)))
              (λ fits. both (moved i (section_checks (services_part p i))) _
              (where_moved i (section_checks (services_part p i)) (λ rule h. h)
              (section_found (leb-true (i + services_size p i) (length p) fits) (eqb-true (byte p i) 0x73 id)))
              (fixed (of_flags p 4) none))))

        module _ (services : closing_at p ≤ length p) where
          future_id : (i : ℕ) → closing_at p ≤ i → test_from p 2 i ≡ Byte FutureId
          unfolding id_test
          future_id i behind_all =
              let so : id_test p i ≡ FutureId =
              simp (
                le-ltb i (captions_at p) (omega (arith, behind_all)),
                le-ltb i (services_at p) (omega (arith, behind_all)),
                le-ltb i (closing_at p) behind_all,
              ) in
              of_id p i (omega (arith, behind_all)) ∙ ap Byte so

          module _ (there : closing_at p + 2 ≤ length p) (sequence : ℕ) where
            walked : {test : SizeTest} → test ≡ closing_test (length p) p (closing_at p) → test_from p 1 (length p) ≡ Size test
            walked e = of_size p (length p) (e ∙ Sizes.in_closing p enough said time captions services there)

            footer_found : (i : ℕ) → Come p (closing_at p) i → byte p i ≡ 0x74 → Holds (Found p) (footer_checks p sequence i)
            footer_found i come id =
                also (λ _. walked (ends_in_footer p (closing_at p) i come id))
                (λ _. fixed (of_sequence p (i + 1)) (fixed (of_checksum p (i + 3)) none))

            turn_found : (turns i : ℕ) (here : Bool) → eqb (byte p i) 0x74 ≡ here → Come p (closing_at p) i → closing_at p ≤ i
                → (Come p (closing_at p) (i + 2 + future_length p i)
                → Holds (Found p) (future_checks turns p (i + 2 + future_length p i)
                ++ footer_checks p sequence (footer_from turns p (i + 2 + future_length p i))))
                → Holds (Found p)
                (cond here [] (future_checks_at p i ++ future_checks turns p (i + 2 + future_length p i))
                ++ footer_checks p sequence (cond here i (footer_from turns p (i + 2 + future_length p i))))
            turn_found turns i true found come behind_all later = footer_found i come (eqb-true (byte p i) 0x74 found)
            turn_found turns i false found come behind_all later =
                let other : byte p i ≡ 0x74 → ⊥ = eqb-false (byte p i) 0x74 found in
                let next : ℕ = i + 2 + future_length p i in
                also (λ _. future_id i behind_all)
                (λ _. also
                (λ k. walked (ends_in_future p (closing_at p) i come other
                (leb-false (i + 1 + future_length p i) (length p) k)))
                (λ fits. let whole = leb-true (i + 1 + future_length p i) (length p) fits in
                also
                (λ k. walked (ends_behind p (closing_at p) i come other whole (leb-false (next + 2) (length p) k)))
                (λ more. later (comes_on p (closing_at p) i come other whole (leb-true (next + 2) (length p) more)))))

            futures_found : (turns i : ℕ) → length p ≤ turns + i → Come p (closing_at p) i → closing_at p ≤ i
                → Holds (Found p) (future_checks turns p i ++ footer_checks p sequence (footer_from turns p i))
            futures_found zero i few come behind_all = absurd (omega (arith, few, come.inside))
            futures_found (suc turns) i few come behind_all =
                turn_found turns i (eqb (byte p i) 0x74) refl come behind_all
                (λ on. futures_found turns (i + 2 + future_length p i) (omega (arith, few)) on (omega (arith, behind_all)))

          closing_found : (sequence : ℕ) → Holds (Found p) (closing_checks p sequence (closing_at p))
          unfolding closing_checks
          closing_found sequence =
              let at : ℕ = closing_at p in
              also
              (λ k. of_size p (length p)
              (Sizes.at_closing p enough said time captions services (leb-false (at + 2) (length p) k)))
              (λ k. let there : at + 2 ≤ length p = leb-true (at + 2) (length p) k in
              futures_found there sequence (length p) at (omega arith) (sets_out p at there) (omega arith))

  -- each part is reached where those in front of it are kept
  time_whole : (present : Bool) → (flags_in p).time_code ≡ present → 11 ≤ length p
      → verdict (when present (time_code_checks p time_code_at)) ≡ clear → captions_at p ≤ length p
  time_whole true on enough h = omega (arith, behind_time p on, leb-true 12 (length p) (kept_at_lem 0 (time_code_checks p 7) h))
  time_whole false off enough h = omega (arith, no_time p off, enough)

  captions_whole : (present : Bool) → (flags_in p).cc_data ≡ present → captions_at p ≤ length p
      → verdict (when present (captions_checks p (captions_at p))) ≡ clear → services_at p ≤ length p
  captions_whole true on time h =
      let end : services_at p ≡ captions_at p + captions_size p (captions_at p) = rw on in
      omega (arith, end, captions_there p (captions_at p) h)
  captions_whole false off time h = omega (arith, no_captions p off, time)

  services_whole : (present : Bool) → (flags_in p).svc_info ≡ present → services_at p ≤ length p
      → verdict (when present (services_checks p (flags_in p) (services_at p))) ≡ clear → closing_at p ≤ length p
  services_whole true on captions h =
      let end : closing_at p ≡ services_at p + services_size p (services_at p) = rw on in
      omega (arith, end, section_there p (flags_in p) (services_at p) h)
  services_whole false off captions h = omega (arith, no_services p off, captions)

  -- The law.
  pub test_found : Holds (Found p) (packet_checks p)
  unfolding packet_checks
  test_found =
      let f : Flags = flags_in p in
      let time : List Check = when f.time_code (time_code_checks p time_code_at) in
      let captions : List Check = when f.cc_data (captions_checks p (captions_at p)) in
      let services : List Check = when f.svc_info (services_checks p f (services_at p)) in
      let closing : List Check = closing_checks p (sequence_in p) (closing_at p) in
      behind (header_checks p) (time ++ (captions ++ (services ++ closing))) header_found
      (λ headed.
      let enough : 11 ≤ length p = leb-true 11 (length p) (kept_at_lem 0 (header_checks p) headed) in
      let said : byte p 2 ≡ length p = eqb-true (byte p 2) (length p) (kept_at_lem 2 (header_checks p) headed) in
      behind time (captions ++ (services ++ closing)) (if_there f.time_code (time_found enough said))
      (λ timed.
      let here : captions_at p ≤ length p = time_whole f.time_code refl enough timed in
      behind captions (services ++ closing) (if_there f.cc_data (captions_found enough said here))
      (λ captioned.
      let on : services_at p ≤ length p = captions_whole f.cc_data refl here captioned in
      behind services closing (if_there f.svc_info (services_found enough said here on))
      (λ listed. closing_found enough said here on (services_whole f.svc_info refl on listed) (sequence_in p)))))

  -- Of a refusal it is the one that its case leaves, at any place.
  pub refusal_leaves : (refusal : Refusal) (place : ℕ) → test_from p (refused refusal).number place ≡ test_left p refusal place
  unfolding test_from test_left
  refusal_leaves (LengthMismatch expected actual) place = refl
  refusal_leaves WrongMagic place = refl
  refusal_leaves UnknownFramerate place = refl
  refusal_leaves InvalidFixedBits place = refl
  refusal_leaves ChecksumFailed place = refl
  refusal_leaves SequenceCountMismatch place = refl
  refusal_leaves ServiceNumberMismatch place = refl
  refusal_leaves InvalidServiceNumber place = refl
  refusal_leaves ServiceFlagsMismatched place = refl
  refusal_leaves WouldOverflow place = refl
  refusal_leaves (BufferTooShort needed given) place = refl
  refusal_leaves NotWritable place = refl
  refusal_leaves WrongCaptionRun place = refl
