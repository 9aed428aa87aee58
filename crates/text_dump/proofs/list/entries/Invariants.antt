-- `text_dump::list::entries`: after k turns the first k entries stand in their places.
-- Assumes nothing.
use Rattle.basis.specs.Made.{made}
use Rattle.text.specs.Lines.{lines_text}
use Rattle.text.specs.Room.{PutInRoom}
use Rattle.text_dump.specs.Lines.{place_line}
use Rattle.text_dump.proofs.list.entries.Given as goal

abbrev pub invariant-loop-shown : goal.invariant-loop-shown
invariant-loop-shown l = PutInRoom l.from (lines_text (made (place_line l.listed) l.shown-index)) l.initial.out l.at l.out
