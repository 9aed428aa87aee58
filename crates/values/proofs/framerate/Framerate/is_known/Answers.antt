-- `values::Framerate::is_known`: the row that the id names is the rate itself.
-- Assumes nothing.
use mathlib.Core.Path.{◌∙◌}
use Rattle.values.proofs.Rates.{is_row}
use Rattle.values.proofs.framerate.Framerate.is_known.Goals as goal

pub returns : goal.returns
returns c = c.eq.ensures ∙ rw c.from_id.ensures (is_row c.args.self)
