-- The caption-active mark: off in a new reader and after a flush, and of any accepted packet what demand 2 compares it
-- with, the bit under 02 of its byte 4. What a refusal leaves of it stands in FirstDemand, what a written packet gives in
-- RoundTrip.
use Rattle.std.specs.Prelude.{false, true, List, ◌≡◌, eqb, length, ℕ}
use Rattle.std.specs.Int.Bits.{bit_and}
use Rattle.basis.specs.Bytes.{byte}
use Rattle.reader.specs.Reader.{flushed_reader, read}
use Rattle.reader.specs.Shown.{fresh_reader}
use Rattle.reader.specs.declared.parser.CDPParser.{CDPParser}

pub record ActiveMark : Type 0 where
  pub off_when_new : fresh_reader.caption_active ≡ false
  pub off_after_flush : (s : CDPParser) → (flushed_reader s).caption_active ≡ false
  -- whatever the state was, and whatever buffer was lent; bit 01 does not count
  pub taken : (s : CDPParser) (p buffer : List ℕ) → eqb (read s p (length buffer)).answer.number 0 ≡ true
      → (read s p (length buffer)).parser.caption_active ≡ eqb (bit_and (byte p 4) 0x02) 0x02
