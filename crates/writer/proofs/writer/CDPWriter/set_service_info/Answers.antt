-- `writer::CDPWriter::set_service_info`: held, or the writer as it was.
-- Assumes nothing.
use mathlib.Core.Path.{◌∙◌, sym}
use Rattle.writer.proofs.Setters.{is_set, not_set}
use Rattle.writer.proofs.writer.CDPWriter.set_service_info.Goals as goal

pub returns-then-not-is_done : goal.returns-then-not-is_done
returns-then-not-is_done c =
    let e = c.count_checked-answer.ensures in
    rw e (not_set _ _ (rw e at (sym c.is_done.ensures ∙ c.if-not-is_done.true)))

pub returns : goal.returns
returns c =
    let e = c.count_checked-answer.ensures in
    rw (e, c.holding.ensures)
    (is_set _ _ (rw e at (sym c.is_done.ensures ∙ c.if-not-is_done.false)))
