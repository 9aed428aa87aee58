-- The dump: all lines that are printed for an input.
use Rattle.std.specs.Prelude.{cond, List, [], ◌∷◌, ℕ, eqb, leb, length}
use Rattle.values.specs.Layout.{caption_room}
use Rattle.reader.specs.Reader.{captions_of, read}
use Rattle.reader.specs.Shown.{fresh_reader}
use Rattle.text.specs.Answers.{answer_line}
use Rattle.text.specs.Ascii.{ascii}
use Rattle.text.specs.Lines.{Line, lines_text}
use Rattle.text.specs.Whole.{most_input}
use Rattle.text_dump.specs.Lines.{shown_lines}
use Rattle.reader.specs.declared.parser.CDPParserRead.{CDPParserRead}

-- a packet that a new reader has read: the answer's line alone for a refusal, else what is shown and handed out below it
unfoldable pub read_lines : CDPParserRead → List ℕ → List Line
read_lines r handed_out =
    answer_line r.answer ∷ cond (eqb r.answer.number 0) (shown_lines r.parser handed_out) []

-- what a new reader gives of a packet, with just the room for the captions that it asks for
abbrev pub newly_read : List ℕ → CDPParserRead
newly_read p = read fresh_reader p caption_room

abbrev pub packet_lines : List ℕ → List Line
packet_lines p = read_lines (newly_read p) (captions_of p)

unfoldable pub dump_text : List ℕ → List ℕ
dump_text input =
    cond (leb (length input) most_input) (lines_text (packet_lines input)) (lines_text (ascii "input too long" ∷ []))

-- the greatest length of a text: an accepted packet's lines, each with its end, with 31 triplets and 15 digital services
abbrev pub most_text : ℕ
most_text = 894
