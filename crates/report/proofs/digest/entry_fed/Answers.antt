-- `report::entry_fed`: the language byte by byte, then the service.
-- Assumes nothing.
use Rattle.report.specs.Digest.{entry_fed}
use Rattle.report.proofs.digest.entry_fed.Goals as goal

pub returns : goal.returns
unfolding entry_fed
returns c =
    rw (
      ← c.feed-first.ensures,
      ← c.feed-second.ensures,
      ← c.feed-third.ensures,
    )
    c.service_fed.ensures
