-- `sweep_reader::read::packet`: the buffer is filled, the packet read, and all that is seen fed.
-- Assumes nothing.
use Rattle.sweep_reader.proofs.Changes.{packet_read}
use Rattle.sweep_reader.proofs.read.packet.Goals as goal

pub returns : goal.returns
returns c =
    let read =
    packet_read _ _ _ _ _ _ _ _ _ c.fill.ensures c.parse-read.ensures.value c.parse-read.ensures.captions_after
    (rw (c.reader-state.ensures, c.answer_fed-answered.ensures) at c.all_fed.ensures)
    c.counted.ensures in
    record { value = read.0; captions_after = read.1 }
