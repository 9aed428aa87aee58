-- `text_dump::captions::triplets`: after k turns the first k triplets stand in their places.
-- Assumes nothing.
use Rattle.basis.specs.Made.{made}
use Rattle.text.specs.Lines.{lines_text}
use Rattle.text.specs.Room.{PutInRoom}
use Rattle.text_dump.specs.Lines.{triplet_line}
use Rattle.text_dump.proofs.captions.triplets.Given as goal

abbrev pub invariant-loop-first : goal.invariant-loop-first
invariant-loop-first l = PutInRoom l.from (lines_text (made (triplet_line l.handed_out) l.first-index)) l.initial.out l.at l.out
