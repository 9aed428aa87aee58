-- What the reader's definition promises, in words of its own. The contract of `reader::CDPParser::parse` says that
-- the code's answer, place and state are `read` and that the buffer is left as `buffer_after`, so that each of these is
-- about the code.
-- Assumes nothing.
use mathlib.Core.Bool.{Bool, true, false, cond, true≢false}
use mathlib.Core.List.{List}
use mathlib.Core.Path.{◌≡◌, ◌∙◌, sym, refl, ap}
use Prim.Native.Nat.{ℕ, ◌+◌, ◌≤◌, ◌<◌}
use native.Mathlib.Omega.{arith}
use borrow.Author.Tests.{eq-eqb, le-leb}
use lib.Dec.{eqb, leb}
use lib.ListN.{drop, length, take}
use lib.Seq.{take_at}
use Rattle.basis.proofs.Verdicts.{done_clear, kept_from, refused_not_done, refused_shows}
use Rattle.basis.specs.Bytes.{byte, over}
use Rattle.basis.specs.Check.{Verdict, answer, broken, clear, if_clear, place_of, verdict}
use Rattle.std.specs.Prelude.{None}
use Rattle.values.specs.Layout.{caption_room}
use Rattle.values_time.specs.Time.{time_absent}
use Rattle.read_closing.proofs.FooterFound.{checksum_kept}
use Rattle.read_closing.specs.Closing.{checksum_of}
use Rattle.read_header.specs.Header.{sequence_in}
use Rattle.read_packet.proofs.Answers.{not_eleven}
use Rattle.read_packet.proofs.PacketReads.{closing_of_packet, size_of_packet}
use Rattle.reader.proofs.ReaderReads.{captions_long}
use Rattle.read_packet.specs.Packet.{captions_length, closing_at, footer_at, packet_checks}
use Rattle.reader.specs.Shown.{shown_by}
use Rattle.reader.specs.Reader.{buffer_after, caption_room_check, captions_of, cleared, read, read_checks}
use Rattle.reader.specs.declared.parser.CDPParser.{CDPParser}
use Rattle.reader.specs.declared.parser.CDPParserRead.{CDPParserRead}

-- the definition, with rule 1's test and the packet's verdict as variables
module _ (enough : Bool) (v : Verdict) (room length : ℕ) (shown s : CDPParser) where
  abbrev whole : Verdict
  whole = cond enough v (broken (caption_room_check room).rule)

  abbrev gives : CDPParserRead
  gives =
      record {
        answer = answer whole length;
        place = place_of whole;
        parser = cond enough (if_clear whole shown (cleared s)) s;
      }

eleven : (enough : Bool) (v : Verdict) (room length : ℕ) (shown s : CDPParser)
    → eqb (answer v length).number 11 ≡ false → eqb (gives enough v room length shown s).answer.number 11 ≡ true
    → (gives enough v room length shown s).parser ≡ s
eleven false v room length shown s f h = refl
eleven true v room length shown s f h = absurd (true≢false (sym h ∙ f))

clears : (enough : Bool) (v : Verdict) (room length : ℕ) (shown s : CDPParser)
    → eqb (gives enough v room length shown s).answer.number 0 ≡ false
    → eqb (gives enough v room length shown s).answer.number 11 ≡ false
    → (gives enough v room length shown s).parser ≡ cleared s
clears false v room length shown s h k = absurd (true≢false k)
clears true clear room length shown s h k = absurd (true≢false h)
clears true (broken rule) room length shown s h k = refl

refused_unless : (v : Verdict) (length : ℕ) → (v ≡ clear → ⊥) → eqb (answer v length).number 0 ≡ false
refused_unless clear length h = absurd (h refl)
refused_unless (broken rule) length h = refused_not_done rule.refusal

keeps : (enough : Bool) (v : Verdict) (room length : ℕ) (shown s : CDPParser)
    → eqb (gives enough v room length shown s).answer.number 0 ≡ false
    → (gives enough v room length shown s).parser.service_info ≡ s.service_info
keeps false v room length shown s h = refl
keeps true clear room length shown s h = absurd (true≢false h)
keeps true (broken rule) room length shown s h = refl

shows : (enough : Bool) (v : Verdict) (room length : ℕ) (shown s : CDPParser)
    → eqb (gives enough v room length shown s).answer.number 0 ≡ true
    → (gives enough v room length shown s).parser ≡ shown
shows false v room length shown s h = absurd (true≢false (sym h))
shows true clear room length shown s h = refl
shows true (broken rule) room length shown s h = absurd (true≢false (sym h ∙ refused_not_done rule.refusal))

module _ (s : CDPParser) (p buffer : List ℕ) where
  -- what reading this packet with this caption buffer gives
  abbrev given : CDPParserRead
  given = read s p (length buffer)

  -- a refusal writes no byte of the lent buffer
  pub refusal_writes_nothing : eqb given.answer.number 0 ≡ false → buffer_after p buffer ≡ buffer
  unfolding read buffer_after
  refusal_writes_nothing h =
      sym
      (refused_shows (λ a b. b) (verdict (read_checks p (length buffer))) (captions_length p) (captions_length p)
      (over 0 (captions_of p) buffer) buffer h)

  -- answer 11 changes nothing
  pub eleven_changes_nothing : given.answer.number ≡ 11 → given.parser ≡ s
  unfolding read
  eleven_changes_nothing h =
      eleven (leb caption_room (length buffer)) (verdict (packet_checks p)) (length buffer) (captions_length p)
      (shown_by p) s (not_eleven p (captions_length p)) (eq-eqb _ _ h)

  -- any other refusal clears rate, time code and sequence, and turns the caption-active mark off
  module _ (refusal : eqb given.answer.number 0 ≡ false) (other : eqb given.answer.number 11 ≡ false) where
    pub refusal_clears : given.parser ≡ cleared s
    unfolding read
    refusal_clears =
        clears (leb caption_room (length buffer)) (verdict (packet_checks p)) (length buffer) (captions_length p)
        (shown_by p) s refusal other

    pub refusal_clears_rate : given.parser.framerate ≡ None
    refusal_clears_rate = ap (λ (r : CDPParser). r.framerate) refusal_clears

    pub refusal_clears_time_code : given.parser.time_code ≡ time_absent
    refusal_clears_time_code = ap (λ (r : CDPParser). r.time_code) refusal_clears

    pub refusal_clears_sequence : given.parser.sequence ≡ 0
    refusal_clears_sequence = ap (λ (r : CDPParser). r.sequence) refusal_clears

    pub refusal_turns_active_off : given.parser.caption_active ≡ false
    refusal_turns_active_off = ap (λ (r : CDPParser). r.caption_active) refusal_clears

  -- an accepted packet leaves what it shows, and nothing of the state before it
  pub acceptance_shows : eqb given.answer.number 0 ≡ true → given.parser ≡ shown_by p
  unfolding read
  acceptance_shows h =
      shows (leb caption_room (length buffer)) (verdict (packet_checks p)) (length buffer) (captions_length p)
      (shown_by p) s h

  -- a packet over 255 bytes, which no length byte can say, is refused
  pub long_refused : byte p 2 ≤ 255 → 255 < length p → eqb given.answer.number 0 ≡ false
  unfolding read
  long_refused a b =
      refused_unless (verdict (read_checks p (length buffer))) (captions_length p)
      (λ h. let s = size_of_packet p (kept_from 1 (read_checks p (length buffer)) h) in
      omega (arith, a, b, s))

  -- no refusal, 11 or another, changes the service list or whether there is one
  pub list_only_from_accepted : eqb given.answer.number 0 ≡ false
      → given.parser.service_info ≡ s.service_info
  unfolding read
  list_only_from_accepted h =
      keeps (leb caption_room (length buffer)) (verdict (packet_checks p)) (length buffer) (captions_length p)
      (shown_by p) s h

  -- a packet with another checksum than rule 9's is refused, so that no list comes from it
  module _ (wrong : byte p (footer_at p + 3) ≡ checksum_of p → ⊥) where
    pub bad_checksum_refused : eqb given.answer.number 0 ≡ false
    unfolding read
    bad_checksum_refused =
        refused_unless (verdict (read_checks p (length buffer))) (captions_length p)
        (λ h. wrong
        (checksum_kept p (sequence_in p) (closing_at p)
        (closing_of_packet p (kept_from 1 (read_checks p (length buffer)) h))))

    pub no_list_from_bad_checksum : given.parser.service_info ≡ s.service_info
    no_list_from_bad_checksum = list_only_from_accepted bad_checksum_refused

  -- answer, place and state do not depend on what is in the buffer, nor on its length from 95 on
  pub same_with_any_buffer : (other : List ℕ) → caption_room ≤ length buffer → caption_room ≤ length other → given ≡ read s p (length other)
  unfolding read
  same_with_any_buffer other a b = simp (le-leb _ _ a, le-leb _ _ b)

  -- nor does what is handed out: on acceptance the buffer's first bytes, as many as the answer says, are the captions
  pub acceptance_hands_out : eqb given.answer.number 0 ≡ true
      → take given.answer.first (buffer_after p buffer) ≡ captions_of p
  unfolding read buffer_after over
  acceptance_hands_out h =
      let all : verdict (read_checks p (length buffer)) ≡ clear =
      done_clear (verdict (read_checks p (length buffer))) (captions_length p) h in
      ap
      (λ (v : Verdict). take (answer v (captions_length p)).first (if_clear v (over 0 (captions_of p) buffer) buffer)) all
      ∙ take_at (captions_of p) (drop (0 + length (captions_of p)) buffer) (captions_length p)
      (captions_long p (kept_from 1 (read_checks p (length buffer)) all))
