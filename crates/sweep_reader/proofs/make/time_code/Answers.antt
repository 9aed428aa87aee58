-- `sweep_reader::make::time_code`: five bytes, where the flags say so.
-- Assumes nothing.
use Rattle.std.proofs.Common.{eq-eqb, ne_eqb}
use Rattle.sweep_reader.specs.Make.{time_code_made}
use Rattle.text.proofs.Rooms.{nothing}
use Rattle.sweep_reader.proofs.make.time_code.Goals as goal

pub returns-then-recipe-eq0 : goal.returns-then-recipe-eq0
unfolding time_code_made
returns-then-recipe-eq0 c =
    simp (eq-eqb _ _ c.if-recipe-eq0.true) (nothing _ _)

pub returns : goal.returns
unfolding time_code_made
returns c =
    simp (ne_eqb _ _ c.if-recipe-eq0.false) c.word.ensures
