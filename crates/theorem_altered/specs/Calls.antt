-- Any sequence of packets and flushes on one reader, and what it shows.
use Rattle.std.specs.Prelude.{cond, List, [], ◌∷◌, ℕ, eqb, length, take}
use Rattle.basis.specs.Answer.{done}
use Rattle.reader.specs.Reader.{buffer_after, flushed_reader, read}
use Rattle.reader.specs.declared.parser.CDPParser.{CDPParser}
use Rattle.basis.specs.declared.answer.Answer.{Answer}

-- a call on the reader: a packet, with the caption buffer that is lent for it, or a flush
pub data Call : Type 0 where
  packet : List ℕ → List ℕ → Call
  flush : Call

-- what a call shows: its answer with the two numbers, and its place; rate, time code, sequence, service list and
-- caption-active mark; the captions
pub record Shown : Type 0 where
  pub answer : Answer
  pub place : ℕ
  pub parser : CDPParser
  pub captions : List ℕ

-- what a packet that passed has put into the caption buffer: its start, so long as the answer says; else nothing
abbrev pub captions_shown : Answer → List ℕ → List ℕ
captions_shown a buffer = cond (eqb a.number 0) (take a.first buffer) []

-- a packet read, by the definitions that the contract of CDPParser::parse cites
abbrev pub packet_shown : CDPParser → List ℕ → List ℕ → Shown
packet_shown s p buffer =
    record {
      answer = (read s p (length buffer)).answer;
      place = (read s p (length buffer)).place;
      parser = (read s p (length buffer)).parser;
      captions = captions_shown (read s p (length buffer)).answer (buffer_after p buffer);
    }

-- a flush, by the contract of CDPParser::flush; it has no answer of its own
abbrev pub call_shown : CDPParser → Call → Shown
call_shown s (packet p buffer) = packet_shown s p buffer
call_shown s flush = record { answer = done 0; place = 0; parser = flushed_reader s; captions = [] }

-- one call after the other, each on the state that the one before it left
abbrev pub run_calls : CDPParser → List Call → List Shown
run_calls s [] = []
run_calls s (c ∷ cs) = call_shown s c ∷ run_calls (call_shown s c).parser cs
