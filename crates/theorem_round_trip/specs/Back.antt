-- What writing a packet and reading it again gives, with nothing asked of the languages.
use Rattle.std.specs.Prelude.{true, false, List, ◌≡◌, ℕ, ◌≤◌, eqb, length}
use Rattle.basis.specs.Answer.{refused}
use Rattle.basis.specs.declared.refusal.Refusal.TheVariants.{ServiceNumberMismatch}
use Rattle.reader.specs.Reader.{cleared}
use Rattle.theorem_packet.specs.RoundTrip.{ReadBack, field_two, field_two_at}
use Rattle.writer.specs.Writer.{held_written}
use Rattle.reader.specs.declared.parser.CDPParser.{CDPParser}
use Rattle.reader.specs.declared.parser.CDPParserRead.{CDPParserRead}
use Rattle.values.specs.declared.framerate.Framerate.{Framerate}
use Rattle.values.specs.Layout.{caption_room}
use Rattle.writer.specs.declared.writer.CDPWriter.{CDPWriter}

-- of a writer, a rate, captions, the buffer that is written, a reader and its caption buffer: what is given, and both buffers after it
pub record WrittenAndRead (w : CDPWriter) (rate : Framerate) (captions buffer : List ℕ) (s : CDPParser) (lent : List ℕ)
    (got : CDPParserRead) (buffer_after lent_after : List ℕ) : Type 0 where
  pub left : buffer_after ≡ (held_written w rate captions buffer).buffer
  -- the writer refuses: its answer, which has no place, and nothing is read
  pub unwritten : eqb (held_written w rate captions buffer).answer.number 0 ≡ false
      → (got ≡ record { answer = (held_written w rate captions buffer).answer; place = 0; parser = s }) × (lent_after ≡ lent)
  -- no counted entry of a held list names field 2: all is read back
  pub back : eqb (held_written w rate captions buffer).answer.number 0 ≡ true → caption_room ≤ length lent
      → field_two w.service_info ≡ false → ReadBack w rate captions lent got lent_after
  -- one does: 7 at its header byte, and what any refusal leaves
  pub at_field_two : eqb (held_written w rate captions buffer).answer.number 0 ≡ true → caption_room ≤ length lent
      → field_two w.service_info ≡ true
      → (got ≡ record { answer = refused ServiceNumberMismatch; place = field_two_at w captions; parser = cleared s })
      × (lent_after ≡ lent)
