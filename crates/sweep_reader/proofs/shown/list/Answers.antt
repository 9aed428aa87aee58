-- `sweep_reader::shown::list`: whether it is there, then the list with all its places.
-- Assumes nothing.
use Rattle.std.proofs.Common.{◌∙◌}
use Rattle.sweep_reader.specs.Shown.{places_fed}
use Rattle.sweep_reader.proofs.shown.list.Goals as goal

pub returns : goal.returns
unfolding places_fed
returns c =
    c.list_fed.ensures ∙ rw c.flag_fed.ensures
