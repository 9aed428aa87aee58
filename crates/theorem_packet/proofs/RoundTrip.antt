-- Demand 2's round trip: reading what was written gives the values back, or is answered 7 where field 2 is named.
-- Assumes nothing.
use mathlib.Core.Bool.{true, false, cond}
use mathlib.Core.List.{List, [], ◌∷◌, ◌++◌, append_assoc}
use mathlib.Core.Path.{◌≡◌, ◌∙◌, sym, refl, ap, ap₂}
use Prim.Native.Nat.{ℕ, ◌+◌, ◌≤◌}
use native.Mathlib.Omega.{arith}
use borrow.Author.Tests.{le-leb}
use lib.Dec.{eqb}
use lib.ListN.{drop, length, length-take, take}
use Rattle.std.specs.Prelude.{Some}
use Rattle.basis.proofs.Verdicts.{and_clear}
use Rattle.basis.specs.Answer.{refused}
use Rattle.basis.specs.declared.refusal.Refusal.TheVariants.{ServiceNumberMismatch}
use Rattle.basis.specs.Bytes.{over}
use Rattle.basis.specs.Check.{answer, clear, if_clear, place_of, size_when, verdict, when}
use Rattle.values.specs.Checksum.{negative, total}
use Rattle.basis.proofs.Writes.{first_bytes}
use Rattle.basis.specs.Writing.{Written}
use Rattle.service_list.proofs.SectionBack.{named}
use Rattle.read_captions.specs.Captions.{captions_checks, captions_size, handed_out}
use Rattle.read_header.specs.Header.{flags_in, header_checks, rate_of, sequence_in}
use Rattle.read_time_code.specs.TimeCode.{time_code_checks, time_code_of}
use Rattle.read_closing.proofs.Checksums.{checksum_is}
use Rattle.read_closing.specs.Closing.{checksum_of, closing_checks}
use Rattle.read_services.specs.Services.{services_checks, services_of, services_size}
use Rattle.read_packet.proofs.PacketReads.{in_order}
use Rattle.read_packet.specs.Packet.{captions_length, captions_at, closing_at, packet_checks, services_at}
use Rattle.reader.specs.Shown.{shown_by}
use Rattle.reader.specs.Reader.{buffer_after, captions_of, cleared, read}
use Rattle.write_checks.proofs.Tests.{Accepted, accepted}
use Rattle.write_bytes.proofs.PacketWrites.{packet_done}
use Rattle.write_bytes.proofs.Parts.{packet_length_lem, services_length_lem, time_length}
use Rattle.writer.specs.Writer.{held_time, held_written}
use Rattle.write_checks.specs.Checks as Checks
use Rattle.write_checks.specs.Checks.{packet_length}
use Rattle.write_bytes.specs.PacketWriting.{
  captions_bytes,
  held_flags,
  footer_bytes,
  header_bytes,
  packet_bytes,
  summed_bytes,
  services_bytes,
  time_code_bytes,
}
use Rattle.theorem_packet.proofs.FooterBack.{closing_clear}
use Rattle.theorem_packet.proofs.HeaderBack.{flags_back, header_clear, rate_back, sequence_back}
use Rattle.theorem_packet.proofs.PartsBack.{ServicesHere, TimeHere, services_here, time_here}
use Rattle.basis.proofs.Places.{further_on}
use Rattle.theorem_packet.proofs.SectionsBack.{captions_clear, captions_value, size_is}
use Rattle.theorem_packet.specs.RoundTrip.{
  Languages,
  ReadBack,
  captions_back,
  field_two,
  field_two_at,
  services_back,
  shown_back,
  written_packet,
}
use Rattle.reader.specs.declared.parser.CDPParser.{CDPParser}
use Rattle.service_list.specs.declared.list.ServiceInfo.{ServiceInfo}
use Rattle.values.specs.declared.flags.Flags.{Flags}
use Rattle.values.specs.declared.framerate.Framerate.{Framerate}
use Rattle.values.specs.Layout.{caption_room, footer_size, header_size, time_code_size}
use Rattle.writer.specs.declared.writer.CDPWriter.{CDPWriter}

six : (a b c d e f : List ℕ) → a ++ b ++ c ++ d ++ e ++ f ≡ a ++ (b ++ (c ++ (d ++ (e ++ f))))
six a b c d e f =
    append_assoc (a ++ b ++ c ++ d) e f
    ∙ append_assoc (a ++ b ++ c) d (e ++ f)
    ∙ append_assoc (a ++ b) c (d ++ (e ++ f))
    ∙ append_assoc a b (c ++ (d ++ (e ++ f)))

-- a packet that can be written
module _ (w : CDPWriter) (rate : Framerate) (captions : List ℕ)
    (right : verdict (Checks.packet_write_checks rate w.time_code w.service_info (length captions)) ≡ clear) where
  abbrev run : ℕ
  run = length captions

  abbrev list : ServiceInfo
  list = w.service_info.service_info

  abbrev p : List ℕ
  p = packet_bytes rate w.sequence w.time_code w.service_info captions

  abbrev sum : ℕ
  sum = negative (total (summed_bytes rate w.sequence w.time_code w.service_info captions))

  holds : Accepted rate w.time_code w.service_info run
  holds = accepted rate w.time_code w.service_info run right

  -- the parts, and what stands from each of them on
  abbrev header : List ℕ
  header =
      header_bytes (packet_length w.time_code w.service_info run) rate
      (held_flags w.time_code w.service_info) w.sequence

  abbrev fourth : List ℕ
  fourth = footer_bytes w.sequence ++ sum ∷ []

  abbrev third : List ℕ
  third = services_bytes w.service_info ++ fourth

  abbrev second : List ℕ
  second = captions_bytes captions ++ third

  abbrev first : List ℕ
  first = time_code_bytes w.time_code ++ second

  abbrev captions_from : ℕ
  captions_from = header_size + Checks.time_code_length w.time_code

  abbrev services_from : ℕ
  services_from = captions_from + (2 + run)

  abbrev footer_from : ℕ
  footer_from = services_from + Checks.services_length w.service_info

  laid : p ≡ header ++ first
  unfolding packet_bytes
  laid =
      six header (time_code_bytes w.time_code) (captions_bytes captions) (services_bytes w.service_info)
      (footer_bytes w.sequence) (sum ∷ [])

  long : length p ≡ footer_from + footer_size
  long = packet_length_lem rate w.sequence w.time_code w.service_info captions

  at_time : drop header_size p ≡ first
  at_time = ap (drop header_size) laid

  at_captions : drop captions_from p ≡ second
  at_captions =
      further_on p header_size (time_code_bytes w.time_code) second at_time (Checks.time_code_length w.time_code)
      (sym (time_length w.time_code))

  at_services : drop services_from p ≡ third
  at_services = further_on p captions_from (captions_bytes captions) third at_captions (2 + run) (omega arith)

  at_footer : drop footer_from p ≡ fourth
  at_footer =
      further_on p services_from (services_bytes w.service_info) fourth at_services
      (Checks.services_length w.service_info) (sym (services_length_lem w.service_info))

  -- the header
  flags : flags_in p ≡ held_flags w.time_code w.service_info
  flags = ap flags_in laid ∙ flags_back (held_flags w.time_code w.service_info) refl

  sequence : sequence_in p ≡ w.sequence
  sequence =
      ap sequence_in laid
      ∙ sequence_back (packet_length w.time_code w.service_info run) rate
      (held_flags w.time_code w.service_info) w.sequence first

  rated : rate_of p ≡ Some rate
  rated =
      ap rate_of laid
      ∙ rate_back (packet_length w.time_code w.service_info run) rate
      (held_flags w.time_code w.service_info) w.sequence first holds.rated

  header_right : verdict (header_checks p) ≡ clear
  header_right =
      let size : length (header ++ first) ≡ packet_length w.time_code w.service_info run =
      ap length (sym laid) ∙ packet_length_lem rate w.sequence w.time_code w.service_info captions in
      ap (λ (q : List ℕ). verdict (header_checks q)) laid
      ∙ header_clear (packet_length w.time_code w.service_info run) rate
      (held_flags w.time_code w.service_info) w.sequence first holds.rated (omega (arith, size))
      (sym size)

  -- the time code
  time : TimeHere p header_size w.time_code.present w.time_code.time_code
  time =
      time_here p header_size w.time_code.present w.time_code.time_code second at_time holds.timed
      (omega (arith, long))

  -- the captions
  captions_at_lem : captions_at p ≡ captions_from
  captions_at_lem = ap (λ (f : Flags). header_size + size_when f.time_code time_code_size) flags

  captions_right : verdict (when (flags_in p).cc_data (captions_checks p (captions_at p))) ≡ clear
  captions_right =
      ap₂ (λ (f : Flags) (i : ℕ). verdict (when f.cc_data (captions_checks p i))) flags captions_at_lem
      ∙ captions_clear p captions_from captions third at_captions holds.short holds.whole (omega (arith, long))

  captions_long : captions_length p ≡ 2 + run
  captions_long =
      ap₂ (λ (f : Flags) (i : ℕ). size_when f.cc_data (captions_size p i)) flags captions_at_lem
      ∙ size_is p captions_from captions third at_captions holds.short holds.whole

  captions_handed : captions_of p ≡ captions_back captions
  captions_handed =
      ap₂ (λ (f : Flags) (i : ℕ). cond f.cc_data (handed_out p i) []) flags captions_at_lem
      ∙ captions_value p captions_from captions third at_captions holds.short holds.whole

  -- the services
  services_at_lem : services_at p ≡ services_from
  services_at_lem = ap₂ (λ (i n : ℕ). i + n) captions_at_lem captions_long

  services :
      ServicesHere p services_from (held_flags w.time_code w.service_info) w.service_info.present list
  services =
      services_here p services_from (held_flags w.time_code w.service_info) w.service_info.present list
      fourth (λ (on : w.service_info.present ≡ true). record { start = rw on; change = rw on; complete = rw on })
      at_services holds.served (omega (arith, long))

  services_right : verdict (when (flags_in p).svc_info (services_checks p (flags_in p) (services_at p)))
      ≡ named (field_two w.service_info) (field_two_at w captions)
  services_right =
      ap₂ (λ (f : Flags) (i : ℕ). verdict (when f.svc_info (services_checks p f i))) flags services_at_lem
      ∙ services.answered

  services_shown : Languages w → services_of p (flags_in p).svc_info (services_at p) ≡ services_back w.service_info
  services_shown languages =
      ap₂ (λ (f : Flags) (i : ℕ). services_of p f.svc_info i) flags services_at_lem ∙ services.shown languages

  -- the footer
  footer_at : closing_at p ≡ footer_from
  footer_at =
      ap₂ (λ (i n : ℕ). i + n) services_at_lem
      (ap₂ (λ (f : Flags) (i : ℕ). size_when f.svc_info (services_size p i)) flags services_at_lem ∙ services.size)

  sum_right : sum ≡ checksum_of p
  unfolding packet_bytes
  sum_right = sym (checksum_is (summed_bytes rate w.sequence w.time_code w.service_info captions) sum)

  footer_right : verdict (closing_checks p (sequence_in p) (closing_at p)) ≡ clear
  footer_right =
      ap₂ (λ (s i : ℕ). verdict (closing_checks p s i)) sequence footer_at
      ∙ closing_clear p footer_from w.sequence sum at_footer long sum_right

  -- the whole packet: clear, or 7 where field 2 is named, at the first header byte that does
  packet_verdict : verdict (packet_checks p) ≡ named (field_two w.service_info) (field_two_at w captions)
  packet_verdict =
      in_order p
      ∙ rw (
        header_right,
        ap (λ (f : Flags). verdict (when f.time_code (time_code_checks p header_size))) flags ∙ time.right,
        captions_right,
        services_right,
        footer_right,
      )
      (and_clear (named (field_two w.service_info) (field_two_at w captions)))

  shown : Languages w → shown_by p ≡ shown_back w rate
  unfolding shown_by
  shown languages =
      let timed : time_code_of p (flags_in p).time_code header_size ≡ held_time w.time_code =
      ap (λ (f : Flags). time_code_of p f.time_code header_size) flags ∙ time.shown in
      let active : (flags_in p).caption_service_active ≡ true = ap (λ (f : Flags). f.caption_service_active) flags in
      rw (rated, timed, sequence, services_shown languages, active)

  module _ (s : CDPParser) (lent : List ℕ) (room : caption_room ≤ length lent) where
    got : read s p (length lent)
        ≡ record {
          answer = answer (named (field_two w.service_info) (field_two_at w captions)) (2 + run);
          place = place_of (named (field_two w.service_info) (field_two_at w captions));
          parser = if_clear (named (field_two w.service_info) (field_two_at w captions)) (shown_by p) (cleared s);
        }
    unfolding read
    got = simp (le-leb caption_room (length lent) room, packet_verdict, captions_long)

    after : buffer_after p lent
        ≡ if_clear (named (field_two w.service_info) (field_two_at w captions)) (over 0 (captions_back captions) lent) lent
    unfolding buffer_after
    after = simp (le-leb caption_room (length lent) room, packet_verdict, captions_handed)

-- what was written is what reading was said of
module _ (w : CDPWriter) (rate : Framerate) (captions buffer : List ℕ)
    (done_so : eqb (held_written w rate captions buffer).answer.number 0 ≡ true) where
  written_is : written_packet w rate captions buffer
      ≡ packet_bytes rate w.sequence w.time_code w.service_info captions
  written_is =
      ap (λ (r : Written). take r.answer.first r.buffer)
      (packet_done rate w.sequence w.time_code w.service_info captions buffer done_so).1
      ∙ first_bytes (packet_bytes rate w.sequence w.time_code w.service_info captions) buffer

  -- as many bytes as the answer says are there
  pub written_fits :
      (held_written w rate captions buffer).answer.first ≤ length (held_written w rate captions buffer).buffer
  written_fits =
      let bytes : List ℕ = packet_bytes rate w.sequence w.time_code w.service_info captions in
      let first : (held_written w rate captions buffer).answer.first ≡ length bytes =
      ap (λ (r : Written). r.answer.first)
      (packet_done rate w.sequence w.time_code w.service_info captions buffer done_so).1 in
      omega (arith, first, simp length-take at (ap length written_is))

  right_so : verdict (Checks.packet_write_checks rate w.time_code w.service_info (length captions)) ≡ clear
  right_so = (packet_done rate w.sequence w.time_code w.service_info captions buffer done_so).0

  module _ (s : CDPParser) (lent : List ℕ) (room : caption_room ≤ length lent) where
    abbrev packet : List ℕ
    packet = written_packet w rate captions buffer

    reads : read s packet (length lent)
        ≡ record {
          answer = answer (named (field_two w.service_info) (field_two_at w captions)) (2 + length captions);
          place = place_of (named (field_two w.service_info) (field_two_at w captions));
          parser = if_clear (named (field_two w.service_info) (field_two_at w captions)) (shown_by packet) (cleared s);
        }
    reads = rw written_is (got w rate captions right_so s lent room)

    leaves : buffer_after packet lent
        ≡ if_clear (named (field_two w.service_info) (field_two_at w captions)) (over 0 (captions_back captions) lent) lent
    leaves = rw written_is (after w rate captions right_so s lent room)

    -- Writing was answered 0, and no counted entry of a held list names field 2: reading what was written, on any
    -- state and with any caption buffer of at least 95 bytes, answers 0 and gives the values back. Crate `round_trip`
    -- has the same with nothing asked of the languages.
    pub round_trip : Languages w → field_two w.service_info ≡ false
        → ReadBack w rate captions lent (read s packet (length lent)) (buffer_after packet lent)
    round_trip languages none =
        record {
          read = reads ∙ rw (none, ap shown_by written_is ∙ shown w rate captions right_so languages);
          handed = leaves ∙ rw none;
        }

    -- Where a counted entry of a held list names field 2, reading is answered 7 at the first header byte that does, and
    -- refuses as it refuses any packet.
    pub field_two_answered_7 : field_two w.service_info ≡ true
        → (read s packet (length lent)
        ≡ record { answer = refused ServiceNumberMismatch; place = field_two_at w captions; parser = cleared s })
        × (buffer_after packet lent ≡ lent)
    field_two_answered_7 some = (reads ∙ rw some, leaves ∙ rw some)
