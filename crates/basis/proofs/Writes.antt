-- What a writer that tests the room last leaves, test by test.
-- Assumes nothing.
use mathlib.Core.Path.{◌≡◌, ◌∙◌, sym, refl}
use mathlib.Core.Bool.{true, false, true≢false, false≢true}
use mathlib.Core.List.{List, [], ◌∷◌, ◌++◌}
use Prim.Native.Nat.{ℕ, ◌≤◌, ◌<◌}
use borrow.Author.Tests.{le-leb, lt-leb}
use lib.Dec.{eqb}
use lib.ListN.{length, take}
use Rattle.basis.proofs.Puts.{take_over}
use Rattle.basis.proofs.Verdicts.{and_then, refused_not_done, verdict_append}
use Rattle.basis.specs.Answer.{done, refused}
use Rattle.basis.specs.declared.refusal.Refusal.TheVariants.{BufferTooShort}
use Rattle.basis.specs.Bytes.{over}
use Rattle.basis.specs.Check.{WriteCheck, WriteVerdict, answer, broken, clear, room_check, verdict}
use Rattle.basis.specs.Writing.{Written, written}
use Rattle.basis.specs.declared.answer.Answer.{Answer}

-- what a writer leaves: this answer, and this buffer
abbrev pub Leaves : Written → Answer → List ℕ → Type 0
Leaves w answer buffer = (answer ≡ w.answer) × (buffer ≡ w.buffer)

-- where a writer answers 0, both of its verdicts are clear, and the bytes stand at the start of the buffer
done_means : (v w : WriteVerdict) (bytes buffer : List ℕ) → eqb (written (and_then v w) bytes buffer).answer.number 0 ≡ true
    → (v ≡ clear) × (written (and_then v w) bytes buffer ≡ written clear bytes buffer)
done_means clear clear bytes buffer h = (refl, refl)
done_means clear (broken rule) bytes buffer h = absurd (false≢true (sym (refused_not_done rule.refusal) ∙ h))
done_means (broken rule) w bytes buffer h = absurd (false≢true (sym (refused_not_done rule.refusal) ∙ h))

refused_so : (v w : WriteVerdict) (k : ℕ) (bytes buffer : List ℕ) → eqb (answer v k).number 0 ≡ false
    → Leaves (written (and_then v w) bytes buffer) (answer v k) buffer
refused_so clear w k bytes buffer h = absurd (true≢false h)
refused_so (broken rule) w k bytes buffer h = (refl, refl)

-- a writer that tests the room last, behind checks of its values
module _ (cs : List WriteCheck) (needed : ℕ) (bytes buffer : List ℕ) where
  abbrev pub room_last : Written
  room_last = written (verdict (cs ++ room_check needed (length buffer) ∷ [])) bytes buffer

  room : WriteVerdict
  room = verdict (room_check needed (length buffer) ∷ [])

  in_order : verdict (cs ++ room_check needed (length buffer) ∷ []) ≡ and_then (verdict cs) room
  unfolding room
  in_order = verdict_append cs (room_check needed (length buffer) ∷ [])

  pub values_refused : (k : ℕ) → eqb (answer (verdict cs) k).number 0 ≡ false
      → Leaves room_last (answer (verdict cs) k) buffer
  values_refused k h = rw in_order (refused_so (verdict cs) room k bytes buffer h)

  pub no_room : verdict cs ≡ clear → length buffer < needed
      → Leaves room_last (refused (BufferTooShort needed (length buffer))) buffer
  unfolding room
  no_room right h = rw (in_order, right) (simp (lt-leb _ _ h), simp (lt-leb _ _ h))

  pub all_fits : verdict cs ≡ clear → length bytes ≡ needed → needed ≤ length buffer
      → Leaves room_last (done needed) (over 0 bytes buffer)
  unfolding room
  all_fits right long h = rw (in_order, right) (simp (le-leb _ _ h, long), simp (le-leb _ _ h))

  pub room_done : eqb room_last.answer.number 0 ≡ true
      → (verdict cs ≡ clear) × (room_last ≡ written clear bytes buffer)
  room_done h = rw in_order (done_means (verdict cs) room bytes buffer (rw in_order at h))

-- as many first bytes as a writer answers with 0 are the bytes that it wrote
pub first_bytes : (bytes buffer : List ℕ)
    → take (written clear bytes buffer).answer.first (written clear bytes buffer).buffer ≡ bytes
first_bytes bytes buffer = take_over bytes buffer
