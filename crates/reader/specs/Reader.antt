-- The reader: rule 1 before the others, and what a packet or a flush leaves.
use Rattle.std.specs.Prelude.{cond, List, [], ◌∷◌, ℕ, leb, length}
use Rattle.basis.specs.declared.refusal.Refusal.TheVariants.{BufferTooShort}
use Rattle.basis.specs.Bytes.{over}
use Rattle.basis.specs.Check.{Check, check_at, verdict, answer, place_of, if_clear}
use Rattle.basis.specs.declared.test.SizeTest.TheVariants.{CaptionRoom}
use Rattle.basis.specs.declared.test.Test.TheVariants.{Size}
use Rattle.values.specs.Layout.{caption_room}
use Rattle.read_captions.specs.Captions.{handed_out}
use Rattle.read_header.specs.Header.{flags_in}
use Rattle.read_packet.specs.Packet.{captions_at, captions_length, packet_checks}
use Rattle.reader.specs.Shown.{fresh_reader, shown_by, with_services}
use Rattle.reader.specs.declared.parser.CDPParser.{CDPParser}
use Rattle.reader.specs.declared.parser.CDPParserRead.{CDPParserRead}

-- 1.1: room for the most captions, or 11 with that and how many bytes were lent, at place 0
abbrev pub caption_room_check : ℕ → Check
caption_room_check room = check_at 0 (Size CaptionRoom) (leb caption_room room) (BufferTooShort caption_room room)

-- and then rules 2 to 9
abbrev pub read_checks : List ℕ → ℕ → List Check
read_checks p room = caption_room_check room ∷ packet_checks p

-- a refused packet: all as in a new reader, the caption-active mark too, and the service list as it was
abbrev pub cleared : CDPParser → CDPParser
cleared s = with_services s.service_info fresh_reader

-- the answer and its place, and the state: replaced, cleared, or as it was where the buffer is too short
unfoldable pub read : CDPParser → List ℕ → ℕ → CDPParserRead
read s p room =
    let v = verdict (read_checks p room) in
    record {
      answer = answer v (captions_length p);
      place = place_of v;
      parser = cond (leb caption_room room) (if_clear v (shown_by p) (cleared s)) s;
    }

-- what is handed out: nothing without a caption section
abbrev pub captions_of : List ℕ → List ℕ
captions_of p = cond (flags_in p).cc_data (handed_out p (captions_at p)) []

-- on acceptance these become the first bytes of the caption buffer; else it stays as it was
unfoldable pub buffer_after : List ℕ → List ℕ → List ℕ
buffer_after p buffer = if_clear (verdict (read_checks p (length buffer))) (over 0 (captions_of p) buffer) buffer

-- a flush makes the state fresh
abbrev pub flushed_reader : CDPParser → CDPParser
flushed_reader s = fresh_reader
