-- `sweep_reader::make::finish`: the size is put, and the checksum mended.
-- Assumes nothing.
use Rattle.std.proofs.Common.{ap, ◌∙◌}
use Rattle.sweep_reader.specs.Make.{finished}
use Rattle.sweep_reader.specs.Mend.{packet_mended}
use Rattle.text.proofs.Rooms.{put_set}
use Rattle.sweep_reader.proofs.make.finish.Goals as goal

pub returns : goal.returns
unfolding finished
returns c =
    c.mend.ensures ∙ ap (packet_mended _) (put_set _ _ _ c.byte.ensures)
