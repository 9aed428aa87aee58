-- `reader::list_made::list`: the section's list, or none.
-- Assumes nothing.
use native.Mathlib.Omega.{arith}
use Rattle.reader.proofs.ListMade.{entries_fit, header_there, list_is}
use Rattle.reader.proofs.PacketShown.{kept_so}
use Rattle.reader.proofs.list_made.list.Goals as goal

pub header-header-requires : goal.header-header-requires
header-header-requires c =
    header_there c.args.packet.now c.args.flags c.args.at
    (kept_so c.args.packet.now c.args.flags c.args.at c.requires.packet_clear c.requires.flags_value c.requires.at_value)

pub places-services-requires : goal.places-services-requires
places-services-requires c =
    rw c.header-header.ensures (record {
      count_bound = omega arith;
      count_in_bounds = entries_fit c.args.packet.now c.args.flags c.args.at
          (kept_so c.args.packet.now c.args.flags c.args.at c.requires.packet_clear c.requires.flags_value c.requires.at_value);
    })

pub returns : goal.returns
returns c =
    rw (c.places-services.ensures, c.header-header.ensures)
    (list_is c.args.packet.now c.args.flags c.args.at
    (kept_so c.args.packet.now c.args.flags c.args.at c.requires.packet_clear c.requires.flags_value c.requires.at_value))
