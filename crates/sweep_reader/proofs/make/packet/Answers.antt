-- `sweep_reader::make::packet`: what is put is within the buffer, and is finished there.
-- Assumes nothing.
use Rattle.std.proofs.Common.{arith}
use lib.ListN.{length-take}
use Rattle.sweep_reader.proofs.Parts.{packet_put}
use Rattle.text.proofs.Rooms.{put_within}
use Rattle.sweep_reader.proofs.make.packet.Goals as goal

pub slice_bounds-finish-end : goal.slice_bounds-finish-end
slice_bounds-finish-end c =
    omega (arith, put_within c.parts-size.ensures)

pub slice_bounds-finish-end-2 : goal.slice_bounds-finish-end-2
slice_bounds-finish-end-2 c =
    simp length-take (omega (arith, put_within c.parts-size.ensures))

pub returns : goal.returns
returns c =
    let put = packet_put _ _ _ _ _ c.parts-size.ensures c.finish.ensures in
    record { value = put.0; bound = omega (arith, put_within c.parts-size.ensures); out_after = put.1 }
