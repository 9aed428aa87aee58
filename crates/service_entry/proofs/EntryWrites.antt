-- What the writers of an entry leave, test by test; and its bytes, each stored at its place.
-- Assumes nothing.
use mathlib.Core.Path.{◌≡◌, ◌∙◌, refl, ap}
use mathlib.Core.Bool.{true, false}
use mathlib.Core.List.{List, [], ◌∷◌}
use Prim.Native.Nat.{ℕ, suc, ◌+◌, ◌≤◌, ◌<◌}
use native.Mathlib.Omega.{arith}
use lib.ListN.{length, set}
use Rattle.basis.proofs.Puts.{over_over, stored_over}
use Rattle.basis.proofs.Writes.{Leaves, all_fits, no_room}
use Rattle.basis.specs.Answer.{done, refused}
use Rattle.basis.specs.declared.refusal.Refusal.TheVariants.{BufferTooShort, NotWritable}
use Rattle.basis.specs.Bytes.{over}
use Rattle.service_entry.specs.EntryWriting.{
  writable,
  entry_bytes,
  entry_check,
  entry_written,
  header_byte,
  seven_bytes,
}
use Rattle.service_entry.specs.declared.entry.ServiceEntry.{ServiceEntry}

-- six bytes stored one after the other from a place on, as the code counts the places
pub six_stored : (at a b c d e f : ℕ) (buffer : List ℕ) → at + 6 ≤ length buffer
    → set (set (set (set (set (set buffer at a) (at + 1) b) (at + 2) c) (at + 3) d) (at + 4) e) (at + 5) f
    ≡ over at (a ∷ b ∷ c ∷ d ∷ e ∷ f ∷ []) buffer
six_stored at a b c d e f buffer fits =
    let one : at + 1 ≡ suc at = omega arith in
    let two : at + 2 ≡ suc (suc at) = omega arith in
    let three : at + 3 ≡ suc (suc (suc at)) = omega arith in
    let four : at + 4 ≡ suc (suc (suc (suc at))) = omega arith in
    let five : at + 5 ≡ suc (suc (suc (suc (suc at)))) = omega arith in
    rw (one, two, three, four, five) (stored_over at (a ∷ b ∷ c ∷ d ∷ e ∷ f ∷ []) buffer fits)

module _ (e : ServiceEntry) (buffer : List ℕ) where
  -- an entry alone
  pub entry_unwritable : writable e.service ≡ false → Leaves (entry_written e buffer) (refused NotWritable) buffer
  unfolding entry_written
  entry_unwritable w = (simp w, simp w)

  pub entry_no_room : writable e.service ≡ true → length buffer < 6
      → Leaves (entry_written e buffer) (refused (BufferTooShort 6 (length buffer))) buffer
  unfolding entry_written
  entry_no_room w h = no_room (entry_check e ∷ []) 6 (entry_bytes e) buffer (simp w) h

  pub entry_fits : writable e.service ≡ true → 6 ≤ length buffer
      → Leaves (entry_written e buffer) (done 6) (over 0 (entry_bytes e) buffer)
  unfolding entry_written
  entry_fits w h = all_fits (entry_check e ∷ []) 6 (entry_bytes e) buffer (simp w) refl h

-- the header byte stored, then the six put behind it
pub header_first : (e : ServiceEntry) (at : ℕ) (buffer : List ℕ) → at + 7 ≤ length buffer
    → over (at + 1) (entry_bytes e) (set buffer at (header_byte e.service)) ≡ over at (seven_bytes e) buffer
header_first e at buffer h =
    ap (over (at + 1) (entry_bytes e)) (stored_over at (header_byte e.service ∷ []) buffer (omega arith))
    ∙ over_over at (header_byte e.service ∷ []) (entry_bytes e) buffer (omega arith)
