-- `report::feed`: the sum that the definition has.
-- Assumes nothing.
use borrow.Author.Rules.{rules}
use Rattle.report.specs.Digest.{fed}
use Rattle.report.proofs.digest.feed.Goals as goal

pub returns : goal.returns
unfolding fed
returns c = search rules
