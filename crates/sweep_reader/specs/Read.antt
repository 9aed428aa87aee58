-- One packet, read and fed to a digest.
use Rattle.std.specs.Prelude.{ℕ, ◌+◌, ◌%◌, ◌^◌, cond, List, length, replicate, ◌==◌}
use Rattle.report.specs.Digest.{fed, two_fed, all_fed}
use Rattle.reader.specs.Reader.{read, buffer_after}
use Rattle.sweep_reader.specs.Shown.{reader_fed}
use Rattle.basis.specs.declared.answer.Answer.{Answer}
use Rattle.reader.specs.declared.parser.CDPParser.{CDPParser}
use Rattle.reader.specs.declared.parser.CDPParserRead.{CDPParserRead}
use Rattle.sweep_reader.specs.declared.read.Tally.{Tally}

abbrev pub tally : ℕ → ℕ → Tally
tally digest accepted = record { digest = digest; accepted = accepted }

-- a size in a refusal can be over 255
abbrev pub answer_fed : ℕ → Answer → ℕ
answer_fed digest a = two_fed (two_fed (fed digest a.number) a.first) a.second

abbrev pub counted_in : ℕ → Answer → ℕ
counted_in accepted a = cond (a.number == 0) ((accepted + 1) % 2 ^ 64) accepted

-- the caption buffer behind a packet: it is lent with A5 in every byte
abbrev pub captions_after : List ℕ → List ℕ → List ℕ
captions_after p captions = buffer_after p (replicate (length captions) 0xA5)

-- all that a caller sees: the answer, the reader and the caption buffer
unfoldable pub tallied : Tally → CDPParserRead → List ℕ → Tally
tallied t r captions =
    tally (all_fed (reader_fed (answer_fed t.digest r.answer) r.parser) captions)
    (counted_in t.accepted r.answer)

unfoldable pub packet_tallied : Tally → CDPParser → List ℕ → List ℕ → Tally
packet_tallied t held p captions = tallied t (read held p (length captions)) (captions_after p captions)
