-- `reader::PacketRead::parse`: what the checks let through is shown.
-- Assumes nothing.
use mathlib.Core.Path.{◌∙◌, sym}
use Rattle.reader.proofs.PacketShown.{packet_whole, shows}
use Rattle.reader.proofs.packet_read.PacketRead.parse.Goals as goal

pub returns : goal.returns
returns c =
    let read = sym c.parse.ensures ∙ c.in_ok-read.was in
    rw (c.shown.ensures, shows _ _ read) (packet_whole _ _ read)
