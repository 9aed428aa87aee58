-- `text_values::taken`: after so many turns the runs that have ended below that value are put.
-- Assumes nothing.
use mathlib.Core.Path.{◌≡◌, ◌∙◌, sym}
use native.Mathlib.Omega.{arith}
use Rattle.explain_tests.specs.Tests.{takes}
use Rattle.text.proofs.Rooms.{behind_as, nothing}
use Rattle.text_values.proofs.Scans.{held_more, held_none, text_all, text_more, text_none}
use Rattle.text_values.proofs.runs.taken.Goals as goal

pub loop-value-init : goal.loop-value-init
loop-value-init c =
    record { held = sym (held_none _); put = rw (text_none (takes _ _)) (nothing _ _) }

pub loop-value-preserved : goal.loop-value-preserved
loop-value-preserved c =
    let held = c.loop-value.invariant.held in
    let asked = c.takes-asked.ensures in
    record {
      held = c.next-scan.ensures ∙ held_more _ _ _ _ held asked;
      put = behind_as c.loop-value.invariant.put c.behind-at.ensures (text_more _ _ _ _ held asked);
    }

pub returns : goal.returns
returns c =
    let all : c.loop-value.value ≡ 256 = omega arith in
    behind_as c.loop-value.invariant.put c.last.ensures (text_all _ _ _ all c.loop-value.invariant.held)
