-- `sweep_reader::mend::sum`: the fold over the bytes.
-- Assumes nothing.
use Rattle.std.proofs.Common.{◌≡◌, ℕ, ◌+◌, ◌%◌, ◌∙◌, fold, rules}
use Rattle.sweep_reader.proofs.Mends.{sum_folded}
use Rattle.sweep_reader.proofs.mend.sum.Goals as goal

pub returns : goal.returns
returns c =
    let folded : c.fold.result ≡ fold (λ (s b : ℕ). (s + b) % 256) 0 c.args.bytes.now = search rules in
    folded ∙ sum_folded c.args.bytes.now
