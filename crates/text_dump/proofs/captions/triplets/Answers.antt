-- `text_dump::captions::triplets`: after k turns the first k triplets stand in their places.
-- Assumes nothing.
use mathlib.Core.List.{[]}
use mathlib.Core.Path.{◌≡◌}
use Prim.Native.Nat.{◌/◌}
use native.Mathlib.Omega.{arith}
use lib.ListN.{length, length-drop}
use Rattle.text.proofs.LinesPut.{each_more, each_none}
use Rattle.text.proofs.Rooms.{behind_as, nothing}
use Rattle.text_dump.proofs.Triplets.{triplet_is}
use Rattle.text_dump.specs.Lines.{triplet_line}
use Rattle.text_dump.proofs.captions.triplets.Goals as goal

pub loop-first-init : goal.loop-first-init
loop-first-init c =
    rw (each_none (triplet_line _)) (nothing _ _)

pub loop-first-preserved : goal.loop-first-preserved
loop-first-preserved c =
    let bytes = c.args.handed_out.now in
    let here = triplet_is bytes c.as_chunks.result.0.now [] _ c.loop-first.first-index c.as_chunks.ensures.front c.as_chunks.ensures.front_len c.loop-first-test.true in
    behind_as c.loop-first.invariant (rw here at c.triplet-at.ensures) (each_more (triplet_line bytes) c.loop-first.first-index)

pub returns : goal.returns
returns c =
    let all : c.loop-first.first-index ≡ length c.args.handed_out.now / 3 = omega (arith, c.as_chunks.ensures.front_len, length-drop 2 c.args.handed_out.now) in
    rw all at c.loop-first.invariant
