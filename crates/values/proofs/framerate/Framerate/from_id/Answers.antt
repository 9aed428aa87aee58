-- `values::Framerate::from_id` is rule 3: each arm is a row of the table, and any other id is in none.
-- Assumes nothing.
use Rattle.std.proofs.Common.{◌∙◌, ap, arith}
use Rattle.std.specs.Prelude.{Some}
use Rattle.values.proofs.Rates.{rows, no_row}
use Rattle.values.proofs.framerate.Framerate.from_id.Goals as goal

pub returns-in-1 : goal.returns-in-1
returns-in-1 c =
    ap Some c.row.ensures ∙ rw c.in-1.is rows.0

pub returns-in-2 : goal.returns-in-2
returns-in-2 c =
    ap Some c.row-in-2.ensures ∙ rw c.in-2.is rows.1

pub returns-in-3 : goal.returns-in-3
returns-in-3 c =
    ap Some c.row-in-3.ensures ∙ rw c.in-3.is rows.2

pub returns-in-4 : goal.returns-in-4
returns-in-4 c =
    ap Some c.row-in-4.ensures ∙ rw c.in-4.is rows.3

pub returns-in-5 : goal.returns-in-5
returns-in-5 c =
    ap Some c.row-in-5.ensures ∙ rw c.in-5.is rows.4

pub returns-in-6 : goal.returns-in-6
returns-in-6 c =
    ap Some c.row-in-6.ensures ∙ rw c.in-6.is rows.5

pub returns-in-7 : goal.returns-in-7
returns-in-7 c =
    ap Some c.row-in-7.ensures ∙ rw c.in-7.is rows.6

pub returns-in-8 : goal.returns-in-8
returns-in-8 c =
    ap Some c.row-in-8.ensures ∙ rw c.in-8.is rows.7

pub returns-in_default : goal.returns-in_default
returns-in_default c =
    no_row _ (omega arith) (omega arith) (omega arith) (omega arith) (omega arith) (omega arith) (omega arith) (omega arith)
