-- `report::all_fed`: the fold over the bytes.
-- Assumes nothing.
use Rattle.std.proofs.Common.{◌≡◌, ◌∙◌, fold, rules}
use Rattle.report.proofs.Folds.{all_folded}
use Rattle.report.specs.Digest.{fed}
use Rattle.report.proofs.digest.all_fed.Goals as goal

pub returns : goal.returns
returns c =
    let folded : c.fold.result ≡ fold fed c.args.first c.args.bytes.now = search rules in
    folded ∙ all_folded c.args.first c.args.bytes.now
