-- The caption-active mark is the byte's bit: an accepted packet's state is what it shows, and that has the bit.
-- Assumes nothing.
use mathlib.Core.Path.{◌∙◌, refl, ap}
use Rattle.reader.proofs.PacketShown.{active_bit}
use Rattle.reader.proofs.Refusals.{acceptance_shows}
use Rattle.reader.specs.declared.parser.CDPParser.{CDPParser}
use Rattle.theorem_packet.specs.ActiveMark.{ActiveMark}

pub active_mark : ActiveMark
active_mark =
    record {
      off_when_new = refl;
      off_after_flush = λ s. refl;
      taken = λ s p buffer h. ap (λ (r : CDPParser). r.caption_active) (acceptance_shows s p buffer h) ∙ active_bit p;
    }
