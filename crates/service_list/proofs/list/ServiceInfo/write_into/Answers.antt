-- `service_list::ServiceInfo::write_into`: count, entries, room, then the section's own two bytes.
-- Assumes nothing.
use mathlib.Core.Path.{◌≡◌, ◌∙◌, sym, ap}
use mathlib.Core.Bool.{true}
use Prim.Native.Nat.{◌≤◌, ◌<◌}
use native.Mathlib.Omega.{arith}
use lib.ListN.{length}
use Rattle.basis.specs.Answer.{done}
use Rattle.basis.specs.declared.answer.Answer.{Answer}
use Rattle.values.specs.Layout.{section_length}
use Rattle.service_entry.specs.Code.{places_writable}
use Rattle.service_entry.proofs.EntriesWrites.{none_left, short_left}
use Rattle.service_list.proofs.SectionWrites.{count_held, count_refused, entry_refused, length_is, room_refused, section_put_lem}
use Rattle.service_list.proofs.list.ServiceInfo.write_into.Goals as goal

pub returns-then-not-is_done : goal.returns-then-not-is_done
returns-then-not-is_done c =
    let e = c.byte_len-length.ensures in
    let left = count_refused c.args.self c.args.out.now (rw e at (sym c.is_done.ensures ∙ c.if-not-is_done.true)) in
    record { value = e ∙ left.0; out_after = left.1 }

pub returns-then-not-put_all : goal.returns-then-not-put_all
returns-then-not-put_all c =
    let held : c.args.self.count ≤ 15 =
    count_held c.args.self
    (rw c.byte_len-length.ensures at (sym c.is_done.ensures ∙ c.if-not-is_done.false))
    in
    let some = sym c.put_all.ensures.value ∙ c.if-not-put_all.true in
    let left = entry_refused c.args.self c.args.out.now held some in
    record { value = c.from.ensures ∙ left.0; out_after = c.put_all.ensures.out_after ∙ sym (none_left _ _ _ _ some) ∙ left.1 }

-- what the tests have shown, and the length that goes with the count
pub returns-then-room-needed : goal.returns-then-room-needed
returns-then-room-needed c =
    let held : c.args.self.count ≤ 15 =
    count_held c.args.self
    (rw c.byte_len-length.ensures at (sym c.is_done.ensures ∙ c.if-not-is_done.false))
    in
    let size : c.byte_len-length.result ≡ done (section_length c.args.self.count) =
    c.byte_len-length.ensures ∙ length_is c.args.self held
    in
    let all : places_writable c.args.self.services c.args.self.count ≡ true =
    sym c.put_all.ensures.value ∙ c.if-not-put_all.false
    in
    let same = c.put_all.auto.out in
    let long = ap (λ (a : Answer). a.first) size in
    let less : length c.args.out.now < section_length c.args.self.count = omega (arith, long, same) in
    let left = room_refused c.args.self c.args.out.now held all less in
    record {
      value = c.from-then-room-needed.ensures ∙ rw (size, same) left.0;
      out_after = c.put_all.ensures.out_after ∙ sym (short_left _ _ _ _ all (omega (arith, less))) ∙ left.1;
    }

pub returns : goal.returns
returns c =
    let held : c.args.self.count ≤ 15 =
    count_held c.args.self
    (rw c.byte_len-length.ensures at (sym c.is_done.ensures ∙ c.if-not-is_done.false))
    in
    let size : c.byte_len-length.result ≡ done (section_length c.args.self.count) =
    c.byte_len-length.ensures ∙ length_is c.args.self held
    in
    let all : places_writable c.args.self.services c.args.self.count ≡ true =
    sym c.put_all.ensures.value ∙ c.if-not-put_all.false
    in
    let same = c.put_all.auto.out in
    let long = ap (λ (a : Answer). a.first) size in
    let fits : section_length c.args.self.count ≤ length c.args.out.now =
    omega (arith, long, same)
    in
    let left = section_put_lem c.args.self c.args.out.now held all fits in
    record { value = size ∙ left.0; out_after = rw (c.put_all.ensures.out_after, c.header_byte.ensures) left.1 }
