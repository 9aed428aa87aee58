-- `text_values::allowed`: a size, two bytes, or the values that are taken.
-- Assumes nothing.
use Rattle.text.proofs.Rooms.{nothing}
use Rattle.text_values.proofs.limits.allowed.Goals as goal

pub returns-in-Accepted : goal.returns-in-Accepted
returns-in-Accepted c =
    rw c.in-Accepted.is (nothing _ _)
