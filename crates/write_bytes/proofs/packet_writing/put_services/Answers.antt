-- `write_bytes::packet_writing::put_services`: the room alone where no list is held, else the list.
-- Assumes nothing.
use mathlib.Core.Path.{◌∙◌}
use Rattle.write_bytes.proofs.ServicesWrites.{absent_fits, absent_no_room}
use Rattle.write_bytes.proofs.packet_writing.put_services.Goals as goal

pub returns-then-room-others : goal.returns-then-room-others
returns-then-room-others c =
    let a = c.args in
    let left = absent_no_room a.service_info a.others a.out.now c.if-service_info.false c.if-room-others.true in
    record { value = c.from.ensures ∙ left.0; out_after = left.1 }

pub returns : goal.returns
returns c =
    let a = c.args in
    let left = absent_fits a.service_info a.others a.out.now c.if-service_info.false c.if-room-others.false in
    record { value = c.done.ensures ∙ left.0; out_after = left.1 }
