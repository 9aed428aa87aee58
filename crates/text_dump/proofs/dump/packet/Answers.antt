-- `text_dump::dump::packet`: what a new reader gives of the packet, line by line.
-- Assumes nothing.
use mathlib.Core.Bool.{false}
use mathlib.Core.Path.{◌≡◌, ◌∙◌, sym, refl}
use lib.Dec.{eqb}
use Rattle.text.proofs.Rooms.{behind, nothing}
use Rattle.text_dump.proofs.PacketDumped.{accepted_lines, handed_size, handed_within, places_enough, refused_lines, whole_handed}
use Rattle.text_dump.proofs.dump.packet.Goals as goal

pub returns-then-not-is_done : goal.returns-then-not-is_done
returns-then-not-is_done c =
    let refused : eqb c.parse-read.result.answer.number 0 ≡ false =
    sym c.is_done.ensures ∙ c.if-not-is_done.true in
    rw
    (refused_lines _ _ _ _ _ c.new-new.ensures refl c.parse-read.ensures.value c.parse-read.ensures.captions_after refused)
    (behind c.answer-answered.ensures (nothing _ _))

-- below, the answer was 0
pub slice_bounds-captions-end : goal.slice_bounds-captions-end
slice_bounds-captions-end c =
    handed_within _ _ _ _ _ c.new-new.ensures refl c.parse-read.ensures.value c.parse-read.ensures.captions_after
    (sym c.is_done.ensures ∙ c.if-not-is_done.false)

pub slice_bounds-shown-end : goal.slice_bounds-shown-end
slice_bounds-shown-end c =
    sym
    (handed_size _ _ _ _ _ c.new-new.ensures refl c.parse-read.ensures.value c.parse-read.ensures.captions_after
    (sym c.is_done.ensures ∙ c.if-not-is_done.false))

pub shown-requires-clause-whole : goal.shown-requires-clause-whole
shown-requires-clause-whole c =
    whole_handed _ _ _ _ _ c.new-new.ensures refl c.parse-read.ensures.value c.parse-read.ensures.captions_after
    (sym c.is_done.ensures ∙ c.if-not-is_done.false)

pub shown-requires-clause-listed : goal.shown-requires-clause-listed
shown-requires-clause-listed c =
    places_enough _ _ _ _ _ c.new-new.ensures refl c.parse-read.ensures.value c.parse-read.ensures.captions_after
    (sym c.is_done.ensures ∙ c.if-not-is_done.false)

pub returns : goal.returns
returns c =
    rw
    (accepted_lines _ _ _ _ _ c.new-new.ensures refl c.parse-read.ensures.value c.parse-read.ensures.captions_after
    (sym c.is_done.ensures ∙ c.if-not-is_done.false))
    (behind c.answer-answered.ensures c.shown.ensures)
