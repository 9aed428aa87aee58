-- Putting the services: what is left where a test is the first that fails, and where none does.
-- Assumes nothing.
use mathlib.Core.Path.{◌≡◌, ◌∙◌, sym, refl, ap}
use mathlib.Core.Bool.{Bool, true, false, true≢false}
use mathlib.Core.List.{List, [], ◌∷◌, ◌++◌}
use Prim.Native.Nat.{ℕ, ◌+◌, ◌-◌, ◌≤◌, ◌<◌}
use native.Mathlib.Nat.{add-zero}
use native.Mathlib.Omega.{arith}
use borrow.Author.Tests.{le-leb, lt-leb}
use lib.Dec.{eqb}
use lib.ListN.{length, drop, length-drop, take, take-append-drop}
use lib.Seq.{length-take-le}
use Rattle.basis.proofs.Puts.{over_nil, part_over}
use Rattle.basis.proofs.Verdicts.{and_then, verdict_append}
use Rattle.basis.proofs.Writes.{Leaves}
use Rattle.basis.specs.Answer.{done, refused}
use Rattle.basis.specs.declared.refusal.Refusal.TheVariants.{BufferTooShort}
use Rattle.basis.specs.Bytes.{over}
use Rattle.basis.specs.Check.{WriteCheck, WriteVerdict, answer, broken, clear, if_clear, room_check, verdict}
use Rattle.basis.specs.Writing.{Written}
use Rattle.values.specs.Layout.{footer_size, section_length}
use Rattle.service_list.proofs.SectionWrites.{section_fits, value_clear, value_refused, written_done}
use Rattle.service_list.specs.Code.{value_answer}
use Rattle.service_entry.specs.EntriesWriting.{entry_write_checks}
use Rattle.service_list.specs.SectionWriting.{counted, section_bytes, section_written, value_checks}
use Rattle.service_list.specs.ServiceList.{byte_len, count_check, list_present}
use Rattle.write_bytes.specs.Code.{services_put}
use Rattle.basis.specs.declared.answer.Answer.{Answer}
use Rattle.service_list.specs.declared.list.MaybeServiceInfo.{MaybeServiceInfo}
use Rattle.service_list.specs.declared.list.ServiceInfo.{ServiceInfo}

-- what a verdict leaves: this buffer where it is clear, else the other
abbrev pub left : WriteVerdict → ℕ → List ℕ → List ℕ → Written
left v length after buffer = record { answer = answer v length; buffer = if_clear v after buffer }

-- of two verdicts one after the other: where the first refuses it decides, and where it is clear the second does
pub first_refused : (v w : WriteVerdict) (k n : ℕ) (after buffer : List ℕ) → eqb (answer v k).number 0 ≡ false
    → Leaves (left (and_then v w) n after buffer) (answer v k) buffer
first_refused clear w k n after buffer h = absurd (true≢false h)
first_refused (broken rule) w k n after buffer h = (refl, refl)

-- no list: the room alone is tested, and nothing is put
module _ (services : MaybeServiceInfo) (others : ℕ) (buffer : List ℕ) (absent : services.present ≡ false) where
  pub absent_no_room : length buffer < others
      → Leaves (services_put services others buffer) (refused (BufferTooShort others (length buffer))) buffer
  unfolding services_put
  absent_no_room h =
      (simp (absent, add-zero others, lt-leb _ _ h), simp (absent, add-zero others, lt-leb _ _ h))

  pub absent_fits : others ≤ length buffer → Leaves (services_put services others buffer) (done others) buffer
  unfolding services_put
  absent_fits h = (
    simp (absent, add-zero others, le-leb _ _ h),
    simp (absent, add-zero others, le-leb _ _ h) (sym (over_nil (others - footer_size) buffer)),
  )

-- a list that is held is as one that is there
pub as_held : (services : MaybeServiceInfo) → services.present ≡ true → list_present services.service_info ≡ services
as_held services h =
    ap (λ (b : Bool). record { present = b; service_info = services.service_info }) (sym h)

module _ (l : ServiceInfo) (others : ℕ) (buffer : List ℕ) where
  abbrev needed : ℕ
  needed = others + section_length l.count

  abbrev after : Written
  after = services_put (list_present l) others buffer

  abbrev room : List WriteCheck
  room = room_check needed (length buffer) ∷ []

  -- the count is the first of the list's checks, and the room comes behind them all
  pub count_refused : eqb (byte_len l).number 0 ≡ false → Leaves after (byte_len l) buffer
  unfolding services_put
  count_refused h =
      rw (verdict_append (count_check l ∷ []) (entry_write_checks (counted l) ++ room))
      (first_refused (verdict (count_check l ∷ [])) _ (section_length l.count) needed _ buffer h)

  pub list_refused : eqb (value_answer l).number 0 ≡ false → Leaves after (value_answer l) buffer
  unfolding services_put value_answer
  list_refused h =
      rw (verdict_append (value_checks l) room) (first_refused (verdict (value_checks l)) _ 0 needed _ buffer h)

  module _ (right : eqb (value_answer l).number 0 ≡ true) where
    pub list_no_room : length buffer < needed → Leaves after (refused (BufferTooShort needed (length buffer))) buffer
    unfolding services_put
    list_no_room h =
        rw (verdict_append (value_checks l) room, value_clear l right) (simp (lt-leb _ _ h), simp (lt-leb _ _ h))

    pub list_fits : needed ≤ length buffer → Leaves after (done needed) (over (others - footer_size) (section_bytes l) buffer)
    unfolding services_put
    list_fits h =
        rw (verdict_append (value_checks l) room, value_clear l right) (simp (le-leb _ _ h), simp (le-leb _ _ h))

-- the section's writer on what stands from a place on, where it has the room that it needs
module _ (l : ServiceInfo) (at : ℕ) (buffer : List ℕ) (room : at + section_length l.count ≤ length buffer) where
  -- what is lent, and the buffer when it has come back
  abbrev rest : List ℕ
  rest = take (length buffer - at) (drop at buffer)

  abbrev back : List ℕ → List ℕ
  back part = take at buffer ++ (part ++ drop (length buffer - at) (drop at buffer))

  abbrev given : Written
  given = section_written l rest

  fits : section_length l.count ≤ length rest
  fits = omega (arith, length-take-le (length buffer - at) (drop at buffer) (omega (arith, length-drop at buffer)))

  pub section_right : eqb given.answer.number 0 ≡ true
      → (eqb (value_answer l).number 0 ≡ true) × (back given.buffer ≡ over at (section_bytes l) buffer)
  section_right h =
      let right : eqb (value_answer l).number 0 ≡ true = (written_done l rest h).0 in
      (right, ap back (sym (section_fits l rest (value_clear l right) fits).1) ∙ part_over at (section_bytes l) buffer)

  refused_by : (b : Bool) → eqb (value_answer l).number 0 ≡ b → eqb given.answer.number 0 ≡ false
      → eqb (value_answer l).number 0 ≡ false
  refused_by false e h = e
  refused_by true e h =
      absurd (true≢false (ap (λ (a : Answer). eqb a.number 0) (section_fits l rest (value_clear l e) fits).0 ∙ h))

  pub section_wrong : eqb given.answer.number 0 ≡ false
      → (eqb (value_answer l).number 0 ≡ false) × (given.answer ≡ value_answer l) × (back given.buffer ≡ buffer)
  section_wrong h =
      let wrong : eqb (value_answer l).number 0 ≡ false = refused_by (eqb (value_answer l).number 0) refl h in
      let left = value_refused l rest wrong in (
        wrong,
        sym left.0,
        ap back (sym left.1)
            ∙ ap (λ (xs : List ℕ). take at buffer ++ xs) (take-append-drop (length buffer - at) (drop at buffer))
            ∙ take-append-drop at buffer,
      )
