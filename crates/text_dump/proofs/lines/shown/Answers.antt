-- `text_dump::lines::shown`: each part's lines in turn.
-- Assumes nothing.
use mathlib.Core.Path.{sym}
use Rattle.text.proofs.Rooms.{behind, behind_as, nothing}
use Rattle.text.proofs.LinesPut.{lines_append}
use Rattle.text_dump.specs.Lines.{caption_lines, service_lines, shown_lines}
use Rattle.text_dump.proofs.lines.shown.Goals as goal

pub returns : goal.returns
unfolding shown_lines
returns c =
    rw (sym c.unwrap_or-framerate.ensures)
    (behind c.rate-rated.ensures
    (behind c.sequence-counted.ensures
    (behind c.time-timed.ensures
    (behind_as c.captions-captioned.ensures
    (behind_as c.services-listed.ensures (behind c.active.ensures (nothing _ _)) (lines_append (service_lines _) _))
    (lines_append (caption_lines _) _)))))
