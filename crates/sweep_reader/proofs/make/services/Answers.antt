-- `sweep_reader::make::services`: the section's two bytes and the entries, where the flags say so.
-- Assumes nothing.
use Rattle.std.proofs.Common.{eq-eqb, ne_eqb}
use Rattle.sweep_reader.specs.Make.{services_made}
use Rattle.text.proofs.Rooms.{behind, nothing}
use Rattle.sweep_reader.proofs.make.services.Goals as goal

pub returns-then-recipe-eq0 : goal.returns-then-recipe-eq0
unfolding services_made
returns-then-recipe-eq0 c =
    simp (eq-eqb _ _ c.if-recipe-eq0.true) (nothing _ _)

pub returns : goal.returns
unfolding services_made
returns c =
    simp (ne_eqb _ _ c.if-recipe-eq0.false)
    (behind c.word-behind.ensures c.entries.ensures)
