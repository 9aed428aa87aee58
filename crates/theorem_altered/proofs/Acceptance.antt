-- A packet that was altered is accepted as it was before, and shows what it did, save its captions and its list.
-- Assumes nothing.
use mathlib.Core.Bool.{Bool, true, false, cond}
use mathlib.Core.List.{List, []}
use mathlib.Core.Path.{◌≡◌, ◌∙◌, sym, refl, ap, ap₂}
use Prim.Native.Nat.{ℕ, ◌+◌, ◌-◌, ◌≤◌}
use native.Mathlib.Nat.{add-zero}
use native.Mathlib.Omega.{arith}
use borrow.Author.Tests.{eqb-true}
use lib.Dec.{eqb}
use lib.ListN.{length}
use Rattle.basis.proofs.Readings.{answer_read}
use Rattle.basis.proofs.Verdicts.{and_then, done_clear, kept_at_lem, moved_clear}
use Rattle.basis.specs.Bytes.{byte}
use Rattle.basis.specs.Check.{clear, size_when, verdict, when}
use Rattle.basis.specs.Mask.{under, xf0}
use Rattle.values.specs.Flags.{flags_of}
use Rattle.values.specs.Layout.{services_id, section_length, time_code_size}
use Rattle.values.specs.Rate.{from_id}
use Rattle.service_entries.specs.Entries.{section_checks}
use Rattle.service_list.specs.Section.{list_of, section_read}
use Rattle.read_captions.specs.Captions.{captions_checks, captions_size, handed_out}
use Rattle.read_header.specs.Header.{flags_in, rate_of, sequence_in}
use Rattle.read_time_code.specs.TimeCode.{time_code_checks, time_code_of}
use Rattle.read_closing.proofs.FooterFound.{checksum_kept}
use Rattle.read_closing.specs.Closing.{checksum_of, closing_checks}
use Rattle.read_services.proofs.ServicesAlone.{FlagsOf, alone}
use Rattle.read_services.specs.Services.{services_checks, services_of, services_size}
use Rattle.read_packet.proofs.PacketReads.{closing_of_packet, in_order, services_of_packet}
use Rattle.read_packet.specs.Packet.{time_code_at, captions_length, captions_at, closing_at, footer_at, packet_checks, services_at}
use Rattle.reader.specs.Shown.{shown_by, with_services}
use Rattle.reader.specs.Reader.{captions_of}
use Rattle.theorem_altered.proofs.Outside.{
  Same,
  before,
  behind,
  captions_same,
  captions_size_lem,
  closing_same,
  header_same,
  section_fits,
  time_same,
  time_shown,
}
use Rattle.theorem_altered.proofs.Spans.{bytes_same}
use Rattle.basis.proofs.Places.{byte_of_part}
use Rattle.read_services.proofs.ServicesReads.{count_at}
use Rattle.theorem_altered.specs.Alteration.{Altered, Put, captions_from, mended_flags, new_captions, new_list, section_in}
use Rattle.basis.specs.declared.answer.Answer.{Answer}
use Rattle.service_list.specs.declared.list.ServiceInfo.{ServiceInfo}
use Rattle.values.specs.declared.flags.Flags.{Flags}

module _ (p q : List ℕ) (a : Altered p q) where
  put : Put (captions_from p) (closing_at p) p q
  put = a.put

  size : length q ≡ length p
  size = put.equally_many

  -- the bytes outside the span
  first : Same p q 0 4
  first i low high = bytes_same p q 0 4 put.before_flags i low high

  front : Same p q 5 (captions_from p)
  front = before (captions_from p) (closing_at p) p q put

  -- the flags: those that say which sections there are, and whether captioning is on air
  flag_kept : (of : Flags → Bool) → ((l : ServiceInfo) → of (mended_flags (flags_in p) l) ≡ of (flags_in p))
      → of (flags_in q) ≡ of (flags_in p)
  flag_kept of h = kept (flags_in p).svc_info refl
    where
      kept : (services : Bool) → (flags_in p).svc_info ≡ services → of (flags_in q) ≡ of (flags_in p)
      kept true on = ap of (a.section on).header_flags_mended ∙ h (list_of (section_in p q))
      kept false off = ap (λ (b : ℕ). of (flags_of b)) (a.same_flags off)

  timed : (flags_in q).time_code ≡ (flags_in p).time_code
  timed = flag_kept (λ (f : Flags). f.time_code) (λ l. refl)

  captioned : (flags_in q).cc_data ≡ (flags_in p).cc_data
  captioned = flag_kept (λ (f : Flags). f.cc_data) (λ l. refl)

  serviced : (flags_in q).svc_info ≡ (flags_in p).svc_info
  serviced = flag_kept (λ (f : Flags). f.svc_info) (λ l. refl)

  activated : (flags_in q).caption_service_active ≡ (flags_in p).caption_service_active
  activated = flag_kept (λ (f : Flags). f.caption_service_active) (λ l. refl)

  -- header and time code
  rated : rate_of q ≡ rate_of p
  rated = ap (λ (b : ℕ). from_id (under xf0 b)) (first 3 (omega arith) (omega arith))

  sequenced : sequence_in q ≡ sequence_in p
  sequenced = rw (front 5 (omega arith) (omega arith), front 6 (omega arith) (omega arith))

  time_bytes : Same p q time_code_at (captions_at p)
  time_bytes i low high = front i (omega (arith, low)) (omega (arith, high))

  time_verdict : verdict (when (flags_in q).time_code (time_code_checks q time_code_at))
      ≡ verdict (when (flags_in p).time_code (time_code_checks p time_code_at))
  time_verdict =
      ap (λ (b : Bool). verdict (when b (time_code_checks q time_code_at))) timed
      ∙ ap verdict (time_same p q size time_code_at (flags_in p).time_code time_bytes)

  time_kept : time_code_of q (flags_in q).time_code time_code_at ≡ time_code_of p (flags_in p).time_code time_code_at
  time_kept = ap (λ (b : Bool). time_code_of q b time_code_at) timed ∙ time_shown p q size time_code_at (flags_in p).time_code time_bytes

  -- captions: their header, and so their place and their number
  captions_at_lem : captions_at q ≡ captions_at p
  captions_at_lem = ap (λ (b : Bool). time_code_at + size_when b time_code_size) timed

  captions_bytes : Same p q (captions_at p) (captions_from p)
  captions_bytes i low high = front i (omega (arith, low)) high

  captions_verdict : verdict (when (flags_in q).cc_data (captions_checks q (captions_at q)))
      ≡ verdict (when (flags_in p).cc_data (captions_checks p (captions_at p)))
  captions_verdict =
      ap₂ (λ (b : Bool) (i : ℕ). verdict (when b (captions_checks q i))) captioned captions_at_lem
      ∙ ap verdict (captions_same p q size (captions_at p) (flags_in p).cc_data captions_bytes)

  pub captions_length_lem : captions_length q ≡ captions_length p
  captions_length_lem =
      ap₂ (λ (b : Bool) (i : ℕ). size_when b (captions_size q i)) captioned captions_at_lem
      ∙ captions_size_lem p q size (captions_at p) (flags_in p).cc_data captions_bytes

  pub captions_new : captions_of q ≡ new_captions p q
  captions_new = ap₂ (λ (b : Bool) (i : ℕ). cond b (handed_out q i) []) captioned captions_at_lem

  -- services: where they stand, and how far
  services_at_lem : services_at q ≡ services_at p
  services_at_lem = ap₂ ◌+◌ captions_at_lem captions_length_lem

  abbrev at : ℕ
  at = services_at p

  sized : (services : Bool) → (flags_in p).svc_info ≡ services
      → size_when services (services_size q at) ≡ size_when services (services_size p at)
  sized true on = ap section_length (sym (count_at q at) ∙ (a.section on).as_many_entries ∙ count_at p at)
  sized false off = refl

  closing_at_lem : closing_at q ≡ closing_at p
  closing_at_lem =
      ap₂ ◌+◌ services_at_lem
      (ap₂ (λ (b : Bool) (i : ℕ). size_when b (services_size q i)) serviced services_at_lem
      ∙ sized (flags_in p).svc_info refl)

  -- the new section, where there is one: its own rules, and the flags that the header has of it
  module _ (on : (flags_in p).svc_info ≡ true) where
    abbrev own : List ℕ
    own = section_in p q

    own_clear : verdict (section_checks own) ≡ clear
    unfolding section_read
    own_clear =
        done_clear (verdict (section_checks own)) 0
        (ap (λ (x : Answer). eqb x.number 0)
        (sym (answer_read (verdict (section_checks own)) (list_of own) 0) ∙ (a.section on).well_formed))

    own_flags : FlagsOf (flags_in q) (list_of own)
    own_flags =
        let mended : flags_in q ≡ mended_flags (flags_in p) (list_of own) = (a.section on).header_flags_mended in
        record {
          start = ap (λ (f : Flags). f.svc_info_start) mended;
          change = ap (λ (f : Flags). f.svc_info_change) mended;
          complete = ap (λ (f : Flags). f.svc_info_complete) mended;
        }

    own_id : byte q at ≡ services_id
    unfolding section_checks
    own_id =
        let id : byte own 0 ≡ services_id = eqb-true _ _ (kept_at_lem 1 (section_checks own) own_clear) in
        ap (byte q) (sym (add-zero at)) ∙ sym (byte_of_part q at (services_size q at) 0 (omega arith)) ∙ id

    own_fits : at + services_size q at ≤ length q
    own_fits =
        let same : services_size q at ≡ services_size p at = sized true on in
        omega (arith, same, section_fits (captions_from p) (closing_at p) p q put on, size)

    own_verdict : verdict (services_checks q (flags_in q) at) ≡ clear
    own_verdict = alone q (flags_in q) at own_fits own_id own_flags ∙ moved_clear at (verdict (section_checks own)) own_clear

  services_verdict : verdict (when (flags_in q).svc_info (services_checks q (flags_in q) (services_at q))) ≡ clear
  services_verdict =
      ap₂ (λ (b : Bool) (i : ℕ). verdict (when b (services_checks q (flags_in q) i))) serviced services_at_lem
      ∙ cleared (flags_in p).svc_info refl
    where
      cleared : (services : Bool) → (flags_in p).svc_info ≡ services
          → verdict (when services (services_checks q (flags_in q) at)) ≡ clear
      cleared true on = own_verdict on
      cleared false off = refl

  list_new : services_of q (flags_in q).svc_info (services_at q) ≡ new_list p q
  list_new = ap₂ (λ (b : Bool) (i : ℕ). services_of q b i) serviced services_at_lem

  -- what stands behind the services, and the whole
  closing_verdict : closing_checks q (sequence_in q) (closing_at q) ≡ closing_checks p (sequence_in p) (closing_at p)
  closing_verdict =
      let kept : byte p (footer_at p + 3) ≡ checksum_of p =
      checksum_kept p (sequence_in p) (closing_at p) (closing_of_packet p put.accepted) in
      let last : length p - 1 ≡ footer_at p + 3 = omega (arith, put.ends_with_footer) in
      ap₂ (λ (s i : ℕ). closing_checks q s i) sequenced closing_at_lem
      ∙ closing_same p q size (closing_at p) (sequence_in p) (behind (captions_from p) (closing_at p) p q put)
      put.ends_with_footer (ap (byte p) last ∙ kept) put.checksum_mended

  pub accepted_too : verdict (packet_checks q) ≡ clear
  accepted_too =
      let services = services_verdict ∙ sym (services_of_packet p put.accepted) in
      in_order q
      ∙ ap₂ and_then (ap verdict (header_same p q size first))
      (ap₂ and_then time_verdict (ap₂ and_then captions_verdict (ap₂ and_then services (ap verdict closing_verdict))))
      ∙ sym (in_order p)
      ∙ put.accepted

  pub shown_too : shown_by q ≡ with_services (new_list p q) (shown_by p)
  unfolding shown_by
  shown_too = rw (rated, time_kept, sequenced, list_new, activated)
