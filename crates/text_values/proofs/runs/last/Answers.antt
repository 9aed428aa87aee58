-- `text_values::runs::last`: the run that goes on, with a comma in front of it where there are others.
-- Assumes nothing.
use Rattle.text.proofs.Rooms.{nothing}
use Rattle.text_values.proofs.runs.last.Goals as goal

pub returns-in_default : goal.returns-in_default
returns-in_default c =
    rw c.in_default.is (nothing _ _)
