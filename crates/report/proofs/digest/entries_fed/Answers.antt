-- `report::entries_fed`: the fold over the entries that count.
-- Assumes nothing.
use Rattle.std.proofs.Common.{◌∙◌, rules, take}
use Rattle.std.proofs.lemmas.Iterator.{YieldsList-from_slice, YieldsList-from_take}
use Rattle.std.proofs.lemmas.Iterator.Consumers.{fold_from_yields_List}
use Rattle.report.proofs.Folds.{entries_folded}
use Rattle.report.specs.Digest.{entry_fed}
use Rattle.report.proofs.digest.entries_fed.Goals as goal

pub returns : goal.returns
returns c =
    fold_from_yields_List _ entry_fed _ _ c.fold.ensures.ran
    (YieldsList-from_take c.args.count (YieldsList-from_slice c.args.services (search rules)) c.take-counted.ensures.count)
    (λ digest entry fed f k. search rules)
    ∙ entries_folded c.args.first (take c.args.count c.args.services)
