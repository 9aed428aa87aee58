-- `sweep_reader::shown::time`: whether it is there, and its six values.
-- Assumes nothing.
use Rattle.std.proofs.Common.{◌∙◌}
use Rattle.sweep_reader.specs.Shown.{time_code_fed}
use Rattle.sweep_reader.proofs.shown.time.Goals as goal

pub returns : goal.returns
unfolding time_code_fed
returns c =
    c.flag_fed-2.ensures
    ∙ rw (
      c.flag_fed.ensures,
      c.feed-frames.ensures,
      c.feed-seconds.ensures,
      c.feed-minutes.ensures,
      c.feed-hours.ensures,
      c.flag_fed-present.ensures,
    )
