-- `sweep_reader::shown::rate`: whether it is there, its id and its two numbers.
-- Assumes nothing.
use Rattle.std.proofs.Common.{◌∙◌}
use Rattle.sweep_reader.specs.Shown.{rate_fed}
use Rattle.sweep_reader.proofs.shown.rate.Goals as goal

pub returns : goal.returns
unfolding rate_fed
returns c =
    c.four-2.ensures ∙ rw (c.four.ensures, c.feed-id.ensures, c.unwrap_or-framerate.ensures, c.flag_fed-present.ensures, c.is_some.ensures)
