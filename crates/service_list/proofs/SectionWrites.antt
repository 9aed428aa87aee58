-- Writing a section: its bytes entry by entry, and what is left where a test is the first that fails, or where none does.
-- Assumes nothing.
use mathlib.Core.Path.{◌≡◌, ◌∙◌, sym, refl, ap}
use mathlib.Core.Bool.{Bool, true, false, cond, false≢true}
use mathlib.Core.List.{List, [], ◌∷◌, ◌++◌}
use Prim.Native.Nat.{ℕ, ◌+◌, ◌≤◌, ◌<◌}
use native.Mathlib.Omega.{arith}
use borrow.Author.Tests.{le-leb, leb-true}
use lib.Dec.{eqb, leb}
use lib.ListN.{length, set, drop}
use Rattle.basis.proofs.Verdicts.{done_clear}
use Rattle.basis.specs.Answer.{done, refused}
use Rattle.basis.specs.declared.refusal.Refusal.TheVariants.{WouldOverflow, BufferTooShort, NotWritable}
use Rattle.basis.specs.Bytes.{over}
use Rattle.basis.specs.Check.{WriteVerdict, clear, broken, unplaced, verdict, answer}
use Rattle.values.specs.Layout.{services_id, section_head_size, section_length}
use Rattle.service_list.specs.ServiceList.{byte_len}
use Rattle.service_entry.proofs.EntriesWrites.{all_left, are_there, entries_verdict, first_length, places_length}
use Rattle.basis.specs.Writing.{written}
use Rattle.service_entry.specs.Code.{all_writable, entries_left, places_writable}
use Rattle.service_entry.specs.EntriesWriting.{entry_list_bytes}
use Rattle.service_list.specs.Code.{value_answer}
use Rattle.service_list.specs.SectionWriting.{
  counted,
  section_byte,
  section_bytes,
  section_written,
  value_checks,
}
use Rattle.basis.proofs.Writes.{Leaves, all_fits, no_room, room_done, values_refused}
use Rattle.service_list.proofs.Writable.{all_writable_lem, some_unwritable}
use Rattle.service_list.specs.declared.list.ServiceInfo.{ServiceInfo}

pub counted_length : (l : ServiceInfo) → length (counted l) ≡ l.count
counted_length l = places_length l.services 0 l.count

-- the entries, then a section's own two bytes before them
head_and_entries : (l : ServiceInfo) (buffer : List ℕ) → 2 ≤ length buffer
    → set (set (over 2 (entry_list_bytes (counted l)) buffer) 0 services_id) 1 (section_byte l) ≡ over 0 (section_bytes l) buffer
unfolding over section_bytes
head_and_entries l [] h = absurd (omega arith)
head_and_entries l (a ∷ []) h = absurd (omega arith)
head_and_entries l (a ∷ b ∷ rest) h =
    let bytes : List ℕ = entry_list_bytes (counted l) in
    let behind : 2 + length bytes ≡ 0 + length (services_id ∷ section_byte l ∷ bytes) = omega arith in
    ap (λ (n : ℕ). services_id ∷ section_byte l ∷ bytes ++ drop n (a ∷ b ∷ rest)) behind

pub section_length_lem : (l : ServiceInfo) → length (section_bytes l) ≡ section_length l.count
unfolding section_bytes
section_length_lem l = omega (arith, first_length l.services l.count)

-- what 0 of the value's tests says: the count is a list's, and every counted entry can be written
abbrev value : Bool → Bool → WriteVerdict
value count entries = cond count (cond entries clear (broken (unplaced NotWritable))) (broken (unplaced WouldOverflow))

both_hold : (count entries : Bool) → eqb (answer (value count entries) 0).number 0 ≡ true
    → (count ≡ true) × (entries ≡ true)
both_hold true true h = (refl, refl)
both_hold true false h = absurd (false≢true h)
both_hold false entries h = absurd (false≢true h)

value_parts : (l : ServiceInfo)
    → verdict (value_checks l) ≡ value (leb l.count 15) (all_writable (counted l))
value_parts l =
    ap (λ (v : WriteVerdict). cond (leb l.count 15) v (broken (unplaced WouldOverflow))) (entries_verdict (counted l))

pub value_done : (l : ServiceInfo) → eqb (value_answer l).number 0 ≡ true
    → (l.count ≤ 15) × (all_writable (counted l) ≡ true)
unfolding value_answer
value_done l h =
    let both = both_hold (leb l.count 15) (all_writable (counted l)) (rw (value_parts l) at h) in
    (leb-true _ _ both.0, both.1)

-- the count is a list's exactly where its section has a length
length_where : (held : Bool) (n : ℕ) → eqb (answer (cond held clear (broken (unplaced WouldOverflow))) n).number 0 ≡ held
length_where true n = refl
length_where false n = refl

length_told : (l : ServiceInfo) → eqb (byte_len l).number 0 ≡ leb l.count 15
length_told l = length_where (leb l.count 15) (section_length l.count)

pub count_held : (l : ServiceInfo) → eqb (byte_len l).number 0 ≡ true → l.count ≤ 15
count_held l h = leb-true _ _ (sym (length_told l) ∙ h)

pub length_is : (l : ServiceInfo) → l.count ≤ 15 → byte_len l ≡ done (section_length l.count)
length_is l h = simp (le-leb _ _ h)

pub value_clear : (l : ServiceInfo) → eqb (value_answer l).number 0 ≡ true → verdict (value_checks l) ≡ clear
unfolding value_answer
value_clear l h = done_clear (verdict (value_checks l)) 0 h

module _ (l : ServiceInfo) (buffer : List ℕ) where
  pub value_refused : eqb (value_answer l).number 0 ≡ false → Leaves (section_written l buffer) (value_answer l) buffer
  unfolding value_answer section_written
  value_refused h = values_refused (value_checks l) (section_length l.count) (section_bytes l) buffer 0 h

  module _ (right : verdict (value_checks l) ≡ clear) where
    pub section_no_room : length buffer < section_length l.count
        → Leaves (section_written l buffer) (refused (BufferTooShort (section_length l.count) (length buffer))) buffer
    unfolding section_written
    section_no_room h = no_room (value_checks l) (section_length l.count) (section_bytes l) buffer right h

    pub section_fits : section_length l.count ≤ length buffer
        → Leaves (section_written l buffer) (done (section_length l.count)) (over 0 (section_bytes l) buffer)
    unfolding section_written
    section_fits h =
        all_fits (value_checks l) (section_length l.count) (section_bytes l) buffer right (section_length_lem l) h

  -- what is left where each test of the code is the first that fails, and where none does
  pub count_refused : eqb (byte_len l).number 0 ≡ false → Leaves (section_written l buffer) (byte_len l) buffer
  unfolding section_written
  count_refused h =
      let over : leb l.count 15 ≡ false = sym (length_told l) ∙ h in
      (simp over, simp over)

  module _ (held : l.count ≤ 15) where
    -- the list's entries are there, so that all of them can be written where its places can
    as_counted : places_writable l.services l.count ≡ all_writable (counted l)
    as_counted = are_there l.count l.services held

    pub entry_refused : places_writable l.services l.count ≡ false
        → Leaves (section_written l buffer) (refused NotWritable) buffer
    entry_refused some =
        let twelve : refused NotWritable ≡ value_answer l = some_unwritable l held (sym as_counted ∙ some) in
        rw twelve (value_refused (rw (← twelve)))

    module _ (all : places_writable l.services l.count ≡ true) where
      right : verdict (value_checks l) ≡ clear
      right = value_clear l (rw (← all_writable_lem l held (sym as_counted ∙ all)))

      pub room_refused : length buffer < section_length l.count
          → Leaves (section_written l buffer) (refused (BufferTooShort (section_length l.count) (length buffer))) buffer
      room_refused h = section_no_room right h

      pub section_put_lem : section_length l.count ≤ length buffer
          → Leaves (section_written l buffer) (done (section_length l.count))
          (set (set (entries_left l.services l.count section_head_size buffer) 0 services_id) 1 (section_byte l))
      section_put_lem h =
          rw (← all_left l.count section_head_size l.services buffer all h, head_and_entries l buffer (omega arith))
          (section_fits right h)

-- where the writer answers 0 the value's tests are clear, and the section stands at the start of the buffer
pub written_done : (l : ServiceInfo) (buffer : List ℕ) → eqb (section_written l buffer).answer.number 0 ≡ true
    → (eqb (value_answer l).number 0 ≡ true) × (section_written l buffer ≡ written clear (section_bytes l) buffer)
unfolding value_answer section_written
written_done l buffer h =
    let both = room_done (value_checks l) (section_length l.count) (section_bytes l) buffer h in
    (rw both.0, both.1)
