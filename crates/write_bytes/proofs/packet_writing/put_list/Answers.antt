-- `write_bytes::packet_writing::put_list`: the count, then entries and room, and the section.
-- Assumes nothing.
use mathlib.Core.Path.{◌≡◌, ◌∙◌, sym, ap}
use native.Mathlib.Omega.{arith}
use Prim.Native.Nat.{◌≤◌}
use lib.Dec.{eqb}
use mathlib.Core.Bool.{false, true}
use Rattle.service_list.specs.ServiceList.{byte_len}
use Rattle.service_list.specs.declared.list.ServiceInfo.{ServiceInfo}
use Rattle.basis.specs.Answer.{done}
use Rattle.basis.specs.declared.answer.Answer.{Answer}
use Rattle.values.specs.Layout.{section_length}
use Rattle.service_list.proofs.SectionWrites.{count_held, length_is}
use Rattle.write_bytes.proofs.ServicesWrites.{count_refused, list_fits, list_no_room, list_refused, section_right, section_wrong}
use Rattle.write_bytes.proofs.packet_writing.put_list.Goals as goal

-- the section's length, and that it is a list's
size : (l : ServiceInfo) (a : Answer) → a ≡ byte_len l → eqb a.number 0 ≡ true
    → (a ≡ done (section_length l.count)) × (l.count ≤ 15)
size l a e h =
    let held = count_held l (rw e at h) in
    (e ∙ length_is l held, held)

pub returns-then-not-is_done : goal.returns-then-not-is_done
returns-then-not-is_done c =
    let a = c.args in
    let e = c.byte_len-length.ensures in
    let left = count_refused a.list a.others a.out.now (rw e at (sym c.is_done.ensures ∙ c.if-not-is_done.true)) in
    record { value = e ∙ left.0; out_after = left.1 }

pub returns-then-not-is_done-2 : goal.returns-then-not-is_done-2
returns-then-not-is_done-2 c =
    let a = c.args in
    let e = c.writable-tested.ensures in
    let wrong : eqb c.writable-tested.result.number 0 ≡ false = cc in
    let left = list_refused a.list a.others a.out.now (rw e at wrong) in
    record { value = e ∙ left.0; out_after = left.1 }

pub returns-then-room-needed : goal.returns-then-room-needed
returns-then-room-needed c =
    let a = c.args in
    let sized = size a.list _ c.byte_len-length.ensures (sym c.is_done.ensures ∙ c.if-not-is_done.false) in
    let long = ap (λ (x : Answer). x.first) sized.0 in
    let left =
    list_no_room a.list a.others a.out.now
    (rw c.writable-tested.ensures at (sym c.is_done-then-room-needed.ensures ∙ c.if-not-is_done-2.false))
    (omega (arith, long, c.if-room-needed.true))
    in
    record { value = rw (c.from.ensures, long) left.0; out_after = left.1 }

pub returns-then-not-is_done-3 : goal.returns-then-not-is_done-3
returns-then-not-is_done-3 c =
    let a = c.args in
    let e = c.write_into-written.ensures in
    let sized = size a.list _ c.byte_len-length.ensures (sym c.is_done.ensures ∙ c.if-not-is_done.false) in
    let wrong =
    section_wrong a.list _ a.out.now (omega (arith, ap (λ (x : Answer). x.first) sized.0))
    (rw e.value at (sym c.is_done-2.ensures ∙ c.if-not-is_done-3.true))
    in
    let left = list_refused a.list a.others a.out.now wrong.0 in
    record { value = e.value ∙ wrong.1 ∙ left.0; out_after = rw e.out_after (wrong.2 ∙ left.1) }

pub returns : goal.returns
returns c =
    let a = c.args in
    let e = c.write_into-written.ensures in
    let sized = size a.list _ c.byte_len-length.ensures (sym c.is_done.ensures ∙ c.if-not-is_done.false) in
    let long = ap (λ (x : Answer). x.first) sized.0 in
    let right =
    section_right a.list _ a.out.now (omega (arith, long))
    (rw e.value at (sym c.is_done-2.ensures ∙ c.if-not-is_done-3.false))
    in
    let left = list_fits a.list a.others a.out.now right.0 (omega (arith, long, c.if-room-needed.false)) in
    record { value = rw (c.done.ensures, long) left.0; out_after = rw e.out_after (right.1 ∙ left.1) }
