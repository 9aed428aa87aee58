-- `report::list_fed`: the flags, the count, the entries.
-- Assumes nothing.
use mathlib.Core.Path.{◌∙◌}
use Rattle.report.specs.Digest.{list_fed}
use Rattle.report.proofs.digest.list_fed.Goals as goal

pub returns : goal.returns
unfolding list_fed
returns c =
    c.entries_fed.ensures
    ∙ rw (c.feed-count.ensures, c.flag_fed-complete.ensures, c.flag_fed-change.ensures, c.flag_fed-start.ensures)
