-- `sweep_reader::shown::reader`: the rate, the time code, the sequence, the list.
-- Assumes nothing.
use Rattle.std.proofs.Common.{◌∙◌}
use Rattle.sweep_reader.specs.Shown.{reader_fed}
use Rattle.sweep_reader.proofs.shown.reader.Goals as goal

pub returns : goal.returns
unfolding reader_fed
returns c =
    c.list.ensures ∙ rw (c.two_fed-sequence.ensures, c.time-time.ensures, c.rate-rate.ensures)
