-- `sweep_reader::make::captions`: the section's two bytes and the captions, where the flags say so.
-- Assumes nothing.
use Rattle.std.proofs.Common.{eq-eqb, ne_eqb}
use Rattle.sweep_reader.specs.Make.{captions_made}
use Rattle.text.proofs.Rooms.{behind, nothing}
use Rattle.sweep_reader.proofs.make.captions.Goals as goal

pub returns-then-recipe-eq0 : goal.returns-then-recipe-eq0
unfolding captions_made
returns-then-recipe-eq0 c =
    simp (eq-eqb _ _ c.if-recipe-eq0.true) (nothing _ _)

pub returns : goal.returns
unfolding captions_made
returns c =
    simp (ne_eqb _ _ c.if-recipe-eq0.false) (behind c.word-behind.ensures c.caption_bytes.ensures)
