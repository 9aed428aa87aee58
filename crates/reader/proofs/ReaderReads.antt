-- The reader: what the definition gives where the buffer is too short, where the packet is refused,
-- and where it is accepted.
-- Assumes nothing.
use mathlib.Core.Bool.{Bool, true, false, cond}
use mathlib.Core.List.{List, []}
use mathlib.Core.Path.{◌≡◌, ◌∙◌, sym, refl, ap}
use Prim.Native.Nat.{ℕ, ◌+◌, ◌≤◌, ◌<◌}
use borrow.Author.Tests.{le-leb, lt-leb}
use lib.ListN.{length}
use Rattle.std.specs.Prelude.{Err}
use Rattle.basis.proofs.Readings.{refused_gives}
use Rattle.basis.proofs.Verdicts.{when_there}
use Rattle.basis.specs.declared.refusal.Refused.{Refused}
use Rattle.basis.specs.Answer.{done, refused}
use Rattle.basis.specs.declared.refusal.Refusal.TheVariants.{BufferTooShort}
use Rattle.basis.specs.Bytes.{over}
use Rattle.basis.specs.Check.{Verdict, answer, clear, if_clear, place_of, size_when, verdict}
use Rattle.read_captions.proofs.CaptionsReads.{captions_there, handed_long}
use Rattle.read_captions.specs.Captions.{captions_checks, captions_size, handed_out}
use Rattle.read_header.specs.Header.{flags_in}
use Rattle.read_packet.proofs.PacketReads.{captions_of_packet}
use Rattle.read_packet.specs.Packet.{captions_length, captions_at, packet_checks}
use Rattle.reader.specs.Shown.{shown_by}
use Rattle.read_packet.specs.Code.{checked_read, checked_shown}
use Rattle.reader.specs.Reader.{buffer_after, captions_of, cleared, read}
use Rattle.reader.specs.declared.parser.CDPParser.{CDPParser}
use Rattle.reader.specs.declared.parser.CDPParserRead.{CDPParserRead}
use Rattle.basis.specs.declared.answer.Answer.{Answer}
use Rattle.values.specs.Layout.{caption_room}

abbrev result : ℕ → Answer → CDPParser → CDPParserRead
result place a s = record { answer = a; place = place; parser = s }

-- an accepted packet has all bytes of its captions, and as many are handed out as its answer says
pub has_captions : (p : List ℕ) → verdict (packet_checks p) ≡ clear → (flags_in p).cc_data ≡ true
    → captions_at p + captions_size p (captions_at p) ≤ length p
has_captions p h on =
    captions_there p (captions_at p) (when_there _ (captions_checks p (captions_at p)) on (captions_of_packet p h))

out_long : (p : List ℕ) (i : ℕ) (present : Bool) → (present ≡ true → i + captions_size p i ≤ length p)
    → length (cond present (handed_out p i) []) ≡ size_when present (captions_size p i)
out_long p i true there = handed_long p i (there refl)
out_long p i false there = refl

pub captions_long : (p : List ℕ) → verdict (packet_checks p) ≡ clear → length (captions_of p) ≡ captions_length p
captions_long p h = out_long p (captions_at p) (flags_in p).cc_data (has_captions p h)

-- the answer, its place and the state
module _ (s : CDPParser) (p : List ℕ) (room : ℕ) where
  pub no_room : room < caption_room → result 0 (refused (BufferTooShort caption_room room)) s ≡ read s p room
  unfolding read
  no_room a = simp (lt-leb _ _ a)

  module _ (enough : caption_room ≤ room) where
    -- the packet's own checks are left
    as_packet : result (place_of (verdict (packet_checks p))) (answer (verdict (packet_checks p)) (captions_length p))
        (if_clear (verdict (packet_checks p)) (shown_by p) (cleared s))
        ≡ read s p room
    unfolding read
    as_packet = simp (le-leb _ _ enough)

    pub packet_refused : (r : Refused) → checked_read p ≡ Err r → result r.place (refused r.refusal) (cleared s) ≡ read s p room
    unfolding checked_read
    packet_refused r h =
        refused_gives result (verdict (packet_checks p)) (checked_shown p) r (captions_length p) (shown_by p) (cleared s) h
        ∙ as_packet

    pub packet_accepted : verdict (packet_checks p) ≡ clear → result 0 (done (captions_length p)) (shown_by p) ≡ read s p room
    packet_accepted h =
        ap (λ (v : Verdict). result (place_of v) (answer v (captions_length p)) (if_clear v (shown_by p) (cleared s))) (sym h)
        ∙ as_packet

-- the buffer
module _ (p : List ℕ) (buffer : List ℕ) where
  pub no_room_buffer : length buffer < caption_room → buffer ≡ buffer_after p buffer
  unfolding buffer_after
  no_room_buffer a = simp (lt-leb _ _ a)

  module _ (enough : caption_room ≤ length buffer) where
    buffer_as_packet : if_clear (verdict (packet_checks p)) (over 0 (captions_of p) buffer) buffer ≡ buffer_after p buffer
    unfolding buffer_after
    buffer_as_packet = simp (le-leb _ _ enough)

    pub refused_buffer : (r : Refused) → checked_read p ≡ Err r → buffer ≡ buffer_after p buffer
    unfolding checked_read
    refused_buffer r h =
        refused_gives (λ place a b. b) (verdict (packet_checks p)) (checked_shown p) r (captions_length p)
        (over 0 (captions_of p) buffer) buffer h
        ∙ buffer_as_packet

    pub accepted_buffer : verdict (packet_checks p) ≡ clear → over 0 (captions_of p) buffer ≡ buffer_after p buffer
    accepted_buffer h =
        ap (λ (v : Verdict). if_clear v (over 0 (captions_of p) buffer) buffer) (sym h)
        ∙ buffer_as_packet
