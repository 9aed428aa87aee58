-- `text_dump::list::entries`: after k turns the first k entries stand in their places.
-- Assumes nothing.
use native.Mathlib.Omega.{arith}
use Rattle.text.proofs.LinesPut.{each_none}
use Rattle.text.proofs.Rooms.{behind_as, nothing}
use Rattle.text_dump.proofs.Places.{place_more}
use Rattle.text_dump.specs.Lines.{place_line}
use Rattle.text_dump.proofs.list.entries.Goals as goal

pub loop-shown-init : goal.loop-shown-init
loop-shown-init c =
    rw (each_none (place_line _)) (nothing _ _)

pub loop-shown-preserved : goal.loop-shown-preserved
loop-shown-preserved c =
    behind_as c.loop-shown.invariant c.entry-at.ensures
    (place_more c.args.listed.now c.loop-shown.shown-index _ (omega arith))
