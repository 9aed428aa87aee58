-- What a new reader gives of a packet, and the lines that come of it.
-- Assumes nothing.
use mathlib.Core.Bool.{Bool, true, false}
use mathlib.Core.List.{List, [], ◌∷◌}
use mathlib.Core.Path.{◌≡◌, ◌∙◌, refl, sym, ap}
use Prim.Native.Nat.{ℕ, ◌<◌, ◌≤◌, ◌%◌}
use native.Mathlib.Omega.{arith}
use lib.Dec.{eqb}
use lib.ListN.{length, length-take, replicate, take}
use Rattle.basis.proofs.Verdicts.{done_clear, kept_from}
use Rattle.basis.specs.Answer.{done}
use Rattle.basis.specs.Check.{Verdict, answer, clear, verdict}
use Rattle.values.specs.Layout.{caption_room}
use Rattle.read_packet.specs.Packet.{captions_length, packet_checks, services_at}
use Rattle.read_header.specs.Header.{flags_in}
use Rattle.read_services.specs.Services.{services_of, services_part}
use Rattle.reader.proofs.ReaderReads.{captions_long}
use Rattle.reader.proofs.Refusals.{acceptance_hands_out, acceptance_shows}
use Rattle.reader.specs.Reader.{buffer_after, captions_of, read, read_checks}
use Rattle.reader.specs.Shown.{fresh_reader, shown_by}
use Rattle.service_entries.specs.Entries.{places}
use Rattle.service_list.specs.Section.{list_of}
use Rattle.text.specs.Answers.{answer_line}
use Rattle.text_dump.specs.Dump.{newly_read, packet_lines, read_lines}
use Rattle.text_dump.specs.Lines.{shown_lines}
use Rattle.basis.specs.declared.answer.Answer.{Answer}
use Rattle.reader.specs.declared.parser.CDPParser.{CDPParser}
use Rattle.reader.specs.declared.parser.CDPParserRead.{CDPParserRead}

-- what is shown of an accepted packet is what its bytes say, and so is the length beside 0
module _ (p : List ℕ) (h : eqb (newly_read p).answer.number 0 ≡ true) where
  all_clear : verdict (read_checks p caption_room) ≡ clear
  unfolding read
  all_clear = done_clear (verdict (read_checks p caption_room)) (captions_length p) h

  pub packet_kept : verdict (packet_checks p) ≡ clear
  packet_kept = kept_from 1 (read_checks p caption_room) all_clear

  pub answer_is : (newly_read p).answer ≡ done (captions_length p)
  unfolding read
  answer_is = ap (λ (v : Verdict). answer v (captions_length p)) all_clear

  pub parser_is : (newly_read p).parser ≡ shown_by p
  parser_is = acceptance_shows fresh_reader p (replicate caption_room 0) h

-- no list counts more than it has places for
pub few_listed : (d : List ℕ) → (list_of d).count ≤ places
unfolding list_of
few_listed d = omega arith

few_entries : (p : List ℕ) (present : Bool) (i : ℕ) → (services_of p present i).service_info.count ≤ places
few_entries p true i = few_listed (services_part p i)
few_entries p false i = omega arith

pub few_shown : (p : List ℕ) → (shown_by p).service_info.service_info.count ≤ places
unfolding shown_by
few_shown p = few_entries p (flags_in p).svc_info (services_at p)

-- captions are whole triplets behind two bytes
whole_captions : (p : List ℕ) (there : Bool) → (flags_in p).cc_data ≡ there → length (captions_of p) ≡ captions_length p
    → 0 < length (captions_of p)
    → length (captions_of p) % 3 ≡ 2
whole_captions p true e same some =
    let size : captions_length p % 3 ≡ 2 = rw e (omega arith) in
    omega (arith, same, size)
whole_captions p false e same some =
    let size : captions_length p ≡ 0 = rw e in
    absurd (omega (arith, same, size, some))

-- what a new reader gave: its answer and its state, and the caption buffer as it was left
module _ (s : CDPParser) (p buffer after : List ℕ) (r : CDPParserRead) (new : s ≡ fresh_reader)
    (room : length buffer ≡ caption_room) (gave : r ≡ read s p (length buffer)) (left : after ≡ buffer_after p buffer) where
  as_read : r ≡ newly_read p
  as_read = gave ∙ rw (new, room)

  -- a refusal: its answer's line and nothing else
  pub refused_lines : eqb r.answer.number 0 ≡ false → packet_lines p ≡ answer_line r.answer ∷ []
  unfolding read_lines
  refused_lines h = rw (← as_read, h)

  module _ (done : eqb r.answer.number 0 ≡ true) where
    accepted : eqb (newly_read p).answer.number 0 ≡ true
    accepted = rw as_read at done

    handed_out : take r.answer.first after ≡ captions_of p
    handed_out =
        rw (left, gave)
        (acceptance_hands_out s p buffer (rw gave at done))

    -- as many bytes were handed out as the answer says
    pub handed_size : length (take r.answer.first after) ≡ r.answer.first
    handed_size =
        ap length handed_out ∙ captions_long p (packet_kept p accepted)
        ∙ sym (ap (λ (x : CDPParserRead). x.answer.first) as_read ∙ ap (λ (a : Answer). a.first) (answer_is p accepted))

    pub handed_within : r.answer.first ≤ length after
    handed_within = omega (arith, handed_size, length-take r.answer.first after)

    -- none, or whole triplets behind two bytes
    pub whole_handed : 0 < length (take r.answer.first after) → length (take r.answer.first after) % 3 ≡ 2
    whole_handed = rw handed_out (λ some. whole_captions p (flags_in p).cc_data refl (captions_long p (packet_kept p accepted)) some)

    pub places_enough : r.parser.service_info.service_info.count ≤ places
    places_enough =
        rw (ap (λ (x : CDPParserRead). x.parser) as_read ∙ parser_is p accepted) (few_shown p)

    -- else what is shown and handed out, below it
    pub accepted_lines : packet_lines p ≡ answer_line r.answer ∷ shown_lines r.parser (take r.answer.first after)
    unfolding read_lines
    accepted_lines = rw (handed_out, ← as_read, done)
