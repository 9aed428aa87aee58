-- `text_values::found`: no byte, two or one.
-- Assumes nothing.
use Rattle.text.proofs.Rooms.{nothing}
use Rattle.text_values.proofs.bytes.found.Goals as goal

pub returns-in-Accepted : goal.returns-in-Accepted
returns-in-Accepted c =
    rw c.in-Accepted.is (nothing _ _)
