-- `sweep_reader::change::values`: after so many turns so many values are read.
-- Assumes nothing.
use Rattle.std.proofs.Common.{◌≡◌, ◌≤◌, length}
use Rattle.sweep_reader.specs.Change.{start, values_after}
use Rattle.sweep_reader.proofs.Changes.{stand}
use Rattle.sweep_reader.proofs.change.values.Given as goal

abbrev pub invariant-loop-value : goal.invariant-loop-value
invariant-loop-value l = (l.value ≤ 256) × (length l.packet ≡ length l.initial.packet) × (length l.captions ≡ length l.initial.captions)
    × (stand l.tally l.packet l.captions ≡ values_after l.held l.change (start l.initial.packet l.initial.captions) l.value)
