-- `reader::CDPParser::parse` is rule 1, then the packet, then what it leaves.
-- Assumes nothing.
use mathlib.Core.Path.{◌∙◌, sym}
use native.Mathlib.Omega.{arith}
use Rattle.reader.proofs.PacketShown.{shows, tests_clear}
use Rattle.reader.proofs.ReaderReads.{accepted_buffer, has_captions, packet_accepted}
use Rattle.reader.proofs.parser.CDPParser.parse.Goals as goal

pub hand_out-requires : goal.hand_out-requires
hand_out-requires c =
    let read = sym c.parse.ensures ∙ c.in-Ok.is in
    record {
      at_in_bounds = rw (shows _ _ read) (has_captions _ (tests_clear _ _ read));
      caption_room_in_bounds = omega arith;
    }

pub returns : goal.returns
returns c =
    let read = sym c.parse.ensures ∙ c.in-Ok.is in
    let clear = tests_clear _ _ read in
    record {
      value = rw (c.done.ensures, c.shown.ensures, shows _ _ read) (packet_accepted _ _ _ (omega arith) clear);
      captions_after = c.hand_out.ensures ∙ rw (shows _ _ read) (accepted_buffer _ _ (omega arith) clear);
    }
