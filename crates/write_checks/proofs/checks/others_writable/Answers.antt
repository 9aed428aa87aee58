-- `write_checks::others_writable`: where every test is kept, the length and the time code's bytes.
-- Assumes nothing.
use mathlib.Core.Path.{◌≡◌, ◌∙◌, sym}
use mathlib.Core.Bool.{true}
use native.Mathlib.Omega.{arith}
use Rattle.write_checks.proofs.Tests.{TimeMade, all_right, time_made}
use Rattle.values.specs.Rate.{known}
use Rattle.write_checks.proofs.checks.others_writable.Goals as goal

pub returns : goal.returns
returns c =
    let rated : known c.args.framerate ≡ true = sym c.is_known.ensures ∙ c.if-not-is_known.false in
    let timed : TimeMade c.time_code_tested-timed.result c.args.time_code =
    time_made _ _ c.time_code_tested-timed.ensures (sym c.is_done.ensures ∙ c.if-not-is_done.false)
    in
    all_right _ _ _ rated (omega arith) (omega arith)
    c.time_code_tested-timed.result timed
