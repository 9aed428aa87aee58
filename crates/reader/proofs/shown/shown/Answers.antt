-- `reader::shown::shown`: what the tests have kept, and the list.
-- Assumes nothing.
use mathlib.Core.Path.{ap}
use Rattle.reader.proofs.PacketShown.{rate_shown, shows, tests_clear}
use Rattle.reader.specs.Shown.{shown_by}
use Rattle.read_packet.specs.declared.checked.Checked.{Checked}
use Rattle.reader.proofs.shown.shown.Goals as goal

pub list-requires : goal.list-requires
list-requires c =
    let kept = shows _ _ c.requires in
    record {
      packet_clear = tests_clear _ _ c.requires;
      flags_value = ap (λ (r : Checked). r.flags) kept;
      at_value = ap (λ (r : Checked). r.services_at) kept;
    }

pub returns : goal.returns
unfolding shown_by
returns c =
    rw (c.list.ensures, shows _ _ c.requires, rate_shown _ (tests_clear _ _ c.requires))
