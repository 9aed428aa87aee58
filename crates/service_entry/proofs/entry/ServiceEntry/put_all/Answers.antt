-- `service_entry::ServiceEntry::put_all`: after k turns of the first loop what is left to see is the entries from k on, after
-- k of the second the first k entries stand from the place on.
-- Assumes nothing.
use mathlib.Core.Bool.{true}
use mathlib.Core.Path.{◌≡◌, ◌∙◌, sym, refl}
use native.Mathlib.Omega.{arith}
use borrow.Author.Tests.{ltb-false, ltb-true}
use lib.Seq.{length-take-le}
use Rattle.service_entry.specs.Code.{places_writable}
use Rattle.service_entry.specs.Service.{filler}
use Rattle.service_entry.proofs.EntriesWrites.{ahead_first, ahead_ends, ahead_here, ahead_next, all_left, are_there, none_left, put_more, put_none, put_whole, short_left, taken_stops, too_many}
use Rattle.service_entry.proofs.entry.ServiceEntry.put_all.Goals as goal
use Rattle.service_entry.proofs.entry.ServiceEntry.put_all.Goals.{then-room-needed-via-then-room-needed, then-room-needed-via-else-room-needed+then-room-needed-2}

pub returns-then-count-gt15 : goal.returns-then-count-gt15
returns-then-count-gt15 c =
    let a = c.args in
    let more = too_many a.count a.services (omega arith) in
    record { value = sym more; out_after = none_left _ _ _ _ more }

pub loop-entry-init : goal.loop-entry-init
loop-entry-init c = ahead_first 0 _ _

pub returns-then-not-is_writable : goal.returns-then-not-is_writable
returns-then-not-is_writable c =
    let a = c.args in
    let some =
    are_there a.count a.services (omega arith)
    ∙ c.loop-entry.invariant
    ∙ taken_stops _ _ _ _ (omega arith) c.loop-entry-test.true (sym c.is_writable.ensures ∙ c.if-not-is_writable.true)
    in
    record { value = sym some; out_after = none_left _ _ _ _ some }

-- where the first loop ends, every entry can be written
pub returns-then-room-needed : goal.returns-then-room-needed
returns-then-room-needed c =
    let a = c.args in
    let all : places_writable a.services a.count ≡ true =
    are_there _ _ (omega arith)
    ∙ c.loop-entry.invariant
    ∙ ahead_ends _ _ _ (omega (arith, length-take-le a.count a.services (omega arith)))
    in
    record {
      value = sym all;
      out_after =
          elim c.then-room-needed.branch [
            | then-room-needed-via-then-room-needed w ↦ short_left _ _ _ _ all (omega arith)
            | then-room-needed-via-else-room-needed+then-room-needed-2 w ↦ short_left _ _ _ _ all (omega (arith, ltb-true))
          ];
    }

pub loop-k-init : goal.loop-k-init
loop-k-init c =
    (omega arith, refl, put_none 0 _ _ _, sym (ahead_first 0 _ _) ∙ c.loop-entry.invariant ∙ ahead_ends _ _ _ (omega (arith, length-take-le c.args.count c.args.services (omega arith))))

pub put_in_section-requires : goal.put_in_section-requires
put_in_section-requires c =
    let inv = c.loop-k.invariant in
    record {
      service_writable = ahead_here _ _ _ _ (omega arith) (omega arith) inv.3;
      at_in_bounds = omega (arith, inv.1, ltb-false);
    }

pub loop-k-preserved : goal.loop-k-preserved
loop-k-preserved c =
    let inv = c.loop-k.invariant in (
      omega arith,
      omega arith,
      c.put_in_section.ensures ∙ rw inv.2 (put_more _ _ _ _ _ (omega arith) (omega (arith, ltb-false))),
      ahead_next _ _ _ filler (omega arith) (omega arith) inv.3,
    )

pub returns : goal.returns
returns c =
    let a = c.args in
    let all : places_writable a.services a.count ≡ true =
    are_there _ _ (omega arith)
    ∙ c.loop-entry.invariant
    ∙ ahead_ends _ _ _ (omega (arith, length-take-le a.count a.services (omega arith)))
    in
    record {
      value = sym all;
      out_after =
          c.loop-k.invariant.2 ∙ put_whole _ _ _ _ a.count (omega arith) ∙ all_left _ _ _ _ all (omega (arith, ltb-false));
    }
