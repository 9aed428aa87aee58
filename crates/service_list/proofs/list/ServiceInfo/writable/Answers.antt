-- `service_list::ServiceInfo::writable`: the count, then the entries.
-- Assumes nothing.
use mathlib.Core.Path.{◌∙◌, sym}
use native.Mathlib.Omega.{arith}
use Rattle.service_entry.proofs.EntriesWrites.{are_there}
use Rattle.service_list.proofs.Writable.{count_over, some_unwritable, all_writable_lem}
use Rattle.service_list.proofs.list.ServiceInfo.writable.Goals as goal

pub returns-then-count-gt-PLACES : goal.returns-then-count-gt-PLACES
returns-then-count-gt-PLACES c =
    c.from.ensures ∙ count_over _ (omega arith)

pub returns-then-not-put_all : goal.returns-then-not-put_all
returns-then-not-put_all c =
    c.from-then-not-put_all.ensures
    ∙ some_unwritable _ (omega arith)
    (sym (are_there _ _ (omega arith)) ∙ sym c.put_all.ensures.value ∙ c.if-not-put_all.true)

pub returns : goal.returns
returns c =
    rw c.done.ensures
    (all_writable_lem _ (omega arith)
    (sym (are_there _ _ (omega arith)) ∙ sym c.put_all.ensures.value ∙ c.if-not-put_all.false))
