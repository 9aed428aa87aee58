-- The list: three flags, fifteen places, a count; and the calls on it.
use Rattle.std.specs.Prelude.{Bool, true, false, cond, List, [], ◌∷◌, ℕ, ◌+◌, Result, Ok, Err, leb, ltb, set}
use Rattle.basis.specs.declared.refusal.Refusal.TheVariants.{WouldOverflow}
use Rattle.basis.specs.Check.{WriteCheck, check, verdict, answer, if_clear}
use Rattle.service_entries.specs.Entries.{places, fillers}
use Rattle.service_entry.specs.declared.entry.ServiceEntry.{ServiceEntry}
use Rattle.service_list.specs.declared.list.MaybeServiceInfo.{MaybeServiceInfo}
use Rattle.service_list.specs.declared.list.ServiceInfo.{ServiceInfo}
use Rattle.service_list.specs.declared.list.ServiceInfoAdded.{ServiceInfoAdded}
use Rattle.basis.specs.declared.answer.Answer.{Answer}
use Rattle.basis.specs.declared.refusal.Refused.{Refused}
use Rattle.values.specs.Layout.{section_length}

abbrev pub list : Bool → Bool → Bool → List ServiceEntry → ℕ → ServiceInfo
list start change complete services count =
    record { start = start; change = change; complete = complete; services = services; count = count }

abbrev pub empty : ServiceInfo
empty = list false false false fillers 0

-- what is shown of a section that was read: the list, or the empty one where it was refused
abbrev pub list_shown : Result ServiceInfo Refused → ServiceInfo
list_shown (Ok l) = l
list_shown (Err r) = empty

-- a list that is there, and one that is not
abbrev pub list_present : ServiceInfo → MaybeServiceInfo
list_present l = record { present = true; service_info = l }

abbrev pub list_absent : MaybeServiceInfo
list_absent = record { present = false; service_info = empty }

abbrev pub set_start : ServiceInfo → Bool → ServiceInfo
set_start l on = list on l.change l.complete l.services l.count

-- true sets start too; false leaves it
abbrev pub set_change : ServiceInfo → Bool → ServiceInfo
set_change l on = list (cond on true l.start) on l.complete l.services l.count

abbrev pub set_complete : ServiceInfo → Bool → ServiceInfo
set_complete l on = list l.start l.change on l.services l.count

-- the filler in all places; the flags stay
abbrev pub clear_services : ServiceInfo → ServiceInfo
clear_services l = list l.start l.change l.complete fillers 0

-- any entry goes behind the others; a list with no free place is given back
abbrev pub added : ServiceInfo → ServiceEntry → ServiceInfoAdded
added l e =
    let v = verdict (check (ltb l.count places) WouldOverflow ∷ []) in
    record {
      answer = answer v 0;
      list = if_clear v (list l.start l.change l.complete (set l.services l.count e) (l.count + 1)) l;
    }

-- W7: a count over 15 is no list's
abbrev pub count_check : ServiceInfo → WriteCheck
count_check l = check (leb l.count places) WouldOverflow

abbrev pub byte_len : ServiceInfo → Answer
byte_len l = answer (verdict (count_check l ∷ [])) (section_length l.count)
