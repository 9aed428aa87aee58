-- `text::put_whole`: the room, then the text.
-- Assumes nothing.
use mathlib.Core.List.{[]}
use Prim.Native.Nat.{◌≤◌}
use mathlib.Core.Path.{◌∙◌, refl}
use native.Mathlib.Omega.{arith}
use lib.ListN.{length}
use Rattle.basis.proofs.Puts.{put_fits}
use Rattle.basis.proofs.Writes.{all_fits, no_room}
use Rattle.text.specs.Whole.{text_written}
use Rattle.text.proofs.whole.put_whole.Goals as goal

pub returns-then-room-needed : goal.returns-then-room-needed
unfolding text_written
returns-then-room-needed c =
    let none = no_room [] (length c.args.text.now) c.args.text.now c.args.out.now refl c.if-room-needed.true in
    record { value = c.from.ensures ∙ none.0; out_after = none.1 }

pub returns : goal.returns
unfolding text_written
returns c =
    let room : length c.args.text.now ≤ length c.args.out.now = omega arith in
    let all = all_fits [] (length c.args.text.now) c.args.text.now c.args.out.now refl refl room in
    record {
      value = c.done.ensures ∙ all.0;
      out_after = c.put.ensures.out_after ∙ put_fits 0 c.args.text.now c.args.out.now (omega (arith, room)) ∙ all.1;
    }
