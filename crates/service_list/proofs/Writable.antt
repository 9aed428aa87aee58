-- Whether a list can be written: the tests of the value.
-- Assumes nothing.
use mathlib.Core.Path.{◌≡◌}
use mathlib.Core.Bool.{true, false}
use Prim.Native.Nat.{◌≤◌, ◌<◌}
use borrow.Author.Tests.{le-leb, lt-leb}
use Rattle.basis.specs.Answer.{done, refused}
use Rattle.basis.specs.declared.refusal.Refusal.TheVariants.{WouldOverflow, NotWritable}
use Rattle.service_entry.proofs.EntriesWrites.{entries_verdict}
use Rattle.service_entry.specs.Code.{all_writable}
use Rattle.service_list.specs.Code.{value_answer}
use Rattle.service_list.specs.SectionWriting.{counted}
use Rattle.service_list.specs.declared.list.ServiceInfo.{ServiceInfo}

-- whether a list can be written
module _ (l : ServiceInfo) where
  pub count_over : 15 < l.count → refused WouldOverflow ≡ value_answer l
  unfolding value_answer
  count_over h = simp (lt-leb _ _ h)

  pub some_unwritable : l.count ≤ 15 → all_writable (counted l) ≡ false → refused NotWritable ≡ value_answer l
  unfolding value_answer
  some_unwritable h w = simp (le-leb _ _ h, entries_verdict, w)

  pub all_writable_lem : l.count ≤ 15 → all_writable (counted l) ≡ true → done 0 ≡ value_answer l
  unfolding value_answer
  all_writable_lem h w = simp (le-leb _ _ h, entries_verdict, w)
