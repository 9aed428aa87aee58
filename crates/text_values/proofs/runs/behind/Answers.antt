-- `text_values::runs::behind`: nothing behind a value that is taken, else the run that ends.
-- Assumes nothing.
use Rattle.text.proofs.Rooms.{nothing}
use Rattle.text_values.proofs.runs.behind.Goals as goal

pub returns-then-asked : goal.returns-then-asked
returns-then-asked c =
    rw c.if-asked.true (nothing _ _)
