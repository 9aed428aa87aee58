-- Every value of one byte of a packet, one after the other.
use Rattle.std.specs.Prelude.{ℕ, zero, suc, ◌%◌, cond, List, slice_set}
use Rattle.sweep_reader.specs.Mend.{packet_mended}
use Rattle.sweep_reader.specs.Read.{tally, captions_after, packet_tallied}
use Rattle.reader.specs.declared.parser.CDPParser.{CDPParser}
use Rattle.sweep_reader.specs.declared.change.Change.{Change}
use Rattle.sweep_reader.specs.declared.read.Tally.{Tally}

-- what is had after some values
pub record Stand : Type 0 where
  pub tally : Tally
  pub packet : List ℕ
  pub captions : List ℕ

abbrev pub start : List ℕ → List ℕ → Stand
start packet captions = record { tally = tally 0 0; packet = packet; captions = captions }

abbrev pub mended_if : Change → List ℕ → List ℕ
mended_if change p = cond change.mended (packet_mended change.behind p) p

-- the byte has the value, and the packet is read
abbrev pub changed_packet : Change → ℕ → List ℕ → List ℕ
changed_packet change value p = mended_if change (slice_set p change.place (value % 256))

abbrev pub changed : CDPParser → Change → Stand → ℕ → Stand
changed held change s value =
    let p = changed_packet change value s.packet in
    record {
      tally = packet_tallied s.tally held p s.captions;
      packet = p;
      captions = captions_after p s.captions;
    }

-- so many values, from 0 on
unfoldable pub values_after : CDPParser → Change → Stand → ℕ → Stand
values_after held change s zero = s
values_after held change s (suc n) = changed held change (values_after held change s n) n

-- all 256 of them
abbrev pub all_values : CDPParser → Change → List ℕ → List ℕ → Stand
all_values held change packet captions = values_after held change (start packet captions) 256
