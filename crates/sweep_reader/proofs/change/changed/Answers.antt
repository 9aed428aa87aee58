-- `sweep_reader::change::changed`: the byte is put, the packet mended and read.
-- Assumes nothing.
use Rattle.std.proofs.Common.{ap, ◌∙◌}
use Rattle.sweep_reader.specs.Change.{mended_if}
use Rattle.text.proofs.Rooms.{put_set}
use Rattle.sweep_reader.proofs.change.changed.Goals as goal

pub returns : goal.returns
returns c =
    let e = c.mended.ensures ∙ ap (mended_if c.args.change) (put_set _ _ _ c.byte.ensures) in
    record { value = rw e at c.packet.ensures.value; packet_after = e; captions_after = rw e at c.packet.ensures.captions_after }
