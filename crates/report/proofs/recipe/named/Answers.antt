-- `report::named`: a field, or a digital service.
-- Assumes nothing.
use Rattle.report.specs.Recipe.{names}
use Rattle.report.proofs.recipe.named.Goals as goal

pub returns-then-field : goal.returns-then-field
unfolding names
returns-then-field c =
    simp c.if-field.true

pub returns : goal.returns
unfolding names
returns c =
    simp c.if-field.false
