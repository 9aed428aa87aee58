-- Follows the code and not the rules: what the bytes of a time code are made under.
use Rattle.std.specs.Prelude.{◌≤◌}
use Rattle.values_time.specs.declared.time.TimeCode.{TimeCode}
use Rattle.values_time.specs.Time.{most_hours, most_minutes, most_seconds, most_frames}

pub record InRange (t : TimeCode) : Type 0 where
  pub hours : t.hours ≤ most_hours
  pub minutes : t.minutes ≤ most_minutes
  pub seconds : t.seconds ≤ most_seconds
  pub frames : t.frames ≤ most_frames
