-- `text_values::taken`: after so many turns the runs that have ended below that value are put.
-- Assumes nothing.
use mathlib.Core.Path.{◌≡◌}
use Rattle.explain_tests.specs.Tests.{takes}
use Rattle.text.specs.Room.{PutInRoom}
use Rattle.text_values.specs.Code.{held_scan}
use Rattle.text_values.specs.Runs.{runs_text, scanned}
use Rattle.text_values.proofs.runs.taken.Given as goal

abbrev pub invariant-loop-value : goal.invariant-loop-value
invariant-loop-value l = record {
  held : l.scan ≡ held_scan (scanned (takes l.test l.said) l.value);
  put : PutInRoom l.from (runs_text (scanned (takes l.test l.said) l.value).ended) l.initial.out l.at l.out;
}
