-- Bytes put into a buffer: none, one more, all of them; and where they do not fit.
-- Assumes nothing.
use mathlib.Core.Bool.{Bool, true, false, cond}
use mathlib.Core.Path.{◌≡◌, ◌∙◌, sym, refl, ap, ap₂}
use mathlib.Core.List.{List, [], ◌∷◌, ◌++◌, append_assoc, append-nil}
use Prim.Native.Nat.{ℕ, ◌+◌, ◌-◌, ◌≤◌, ◌<◌}
use native.Mathlib.Nat.{add-zero, zero-add}
use native.Mathlib.Numerals.{add-one}
use native.Mathlib.Omega.{arith}
use borrow.Author.Tests.{le-leb, leb-true}
use lib.Dec.{leb}
use lib.ListN.{
  length,
  get_or,
  set,
  take,
  drop,
  length-append,
  length-drop,
  length-take,
  drop_of_length-le,
  take-append-drop,
}
use lib.Seq.{
  paste,
  paste-zero,
  paste-suc,
  length-paste,
  take_all,
  take-append_seam,
  take_at,
  drop-append-add,
  drop-drop,
  sets,
  sets-eq,
}
use Rattle.basis.specs.Answer.{done}
use Rattle.basis.specs.Bytes.{over}
use Rattle.basis.specs.Code.{fitting, put, put_answer}
use Rattle.basis.specs.Check.{Nowhere, RuleAt, answer, broken, clear, if_clear, room_check}

-- the buffer with the first k of the bytes put
unfoldable pub copied : ℕ → ℕ → List ℕ → List ℕ → List ℕ
copied k at bytes buffer = paste buffer at bytes k

module _ (at : ℕ) (bytes buffer : List ℕ) where
  pub copied_none : buffer ≡ copied 0 at bytes buffer
  unfolding copied
  copied_none = paste-zero buffer at bytes

  pub copied_one : (k : ℕ) → k < length bytes → at + k < length buffer
      → set (copied k at bytes buffer) (at + k) (get_or bytes k 0) ≡ copied (k + 1) at bytes buffer
  unfolding copied
  copied_one k h fits = paste-suc buffer at bytes k 0 fits h ∙ rw (add-one k)

  pub copied_all : (k : ℕ) → k ≡ length bytes → copied k at bytes buffer ≡ over at bytes buffer
  unfolding copied over
  copied_all k h = rw (h, take_all (length bytes) bytes (omega arith))

  -- no bytes leave the buffer as it is
  pub over_none : length bytes ≡ 0 → buffer ≡ over at bytes buffer
  over_none h = copied_none ∙ copied_all 0 (sym h)

  -- room for all of them
  pub fits_clear : at + length bytes ≤ length buffer
      → (done 0 ≡ put_answer at bytes buffer) × (over at bytes buffer ≡ put at bytes buffer)
  unfolding put_answer put
  fits_clear h =
      let room : length bytes ≤ length buffer - at = omega arith in
      (simp (le-leb _ _ room), simp (le-leb _ _ room))

  pub put_fits : at + length bytes ≤ length buffer → put at bytes buffer ≡ over at bytes buffer
  put_fits h = sym (fits_clear h).1

  pub length_over : at + length bytes ≤ length buffer → length (over at bytes buffer) ≡ length buffer
  unfolding copied
  length_over h =
      rw (← copied_all (length bytes) (omega arith)) (length-paste buffer at bytes (length bytes) h (omega arith))

-- bytes that take the place of as many are put
pub copied_over : (at n : ℕ) (bytes buffer : List ℕ) → n ≡ length bytes
    → take at buffer ++ (bytes ++ drop n (drop at buffer)) ≡ over at bytes buffer
unfolding over
copied_over at n bytes buffer h =
    rw (h, drop-drop (length bytes) at buffer) (sym (append_assoc (take at buffer) bytes (drop (at + length bytes) buffer)))

-- bytes that code stores one after the other are put
pub stored_over : (at : ℕ) (bytes buffer : List ℕ) → at + length bytes ≤ length buffer
    → sets buffer at bytes ≡ over at bytes buffer
unfolding over
stored_over at bytes buffer h = sets-eq bytes buffer at h

-- bytes put behind others that were put are all of them put
pub over_over : (at : ℕ) (xs ys buffer : List ℕ) → at ≤ length buffer
    → over (at + length xs) ys (over at xs buffer) ≡ over at (xs ++ ys) buffer
unfolding over
over_over at xs ys buffer h =
    let head : List ℕ = take at buffer ++ xs in
    let rest : List ℕ = drop (at + length xs) buffer in
    let long : length head ≡ at + length xs = simp (length-append, length-take) (omega arith) in
    let behind : drop (at + length xs + length ys) (head ++ rest) ≡ drop (at + length xs + length ys) buffer =
    ap (λ (n : ℕ). drop (n + length ys) (head ++ rest)) (sym long)
    ∙ drop-append-add head rest (length ys)
    ∙ drop-drop (length ys) (at + length xs) buffer in
    let end : at + length xs + length ys ≡ at + length (xs ++ ys) = simp length-append (omega arith) in
    ap₂ (λ (f b : List ℕ). f ++ ys ++ b) (take_at head rest (at + length xs) long) behind
    ∙ ap (λ (n : ℕ). head ++ ys ++ drop n buffer) end
    ∙ ap (λ (f : List ℕ). f ++ drop (at + length (xs ++ ys)) buffer) (append_assoc (take at buffer) xs ys)

-- the same of two puts, where there is room for both
pub put_put : (at : ℕ) (xs ys buffer : List ℕ) → at + (length xs + length ys) ≤ length buffer
    → put (at + length xs) ys (put at xs buffer) ≡ over at (xs ++ ys) buffer
put_put at xs ys buffer h =
    let same : length (over at xs buffer) ≡ length buffer = length_over at xs buffer (omega arith) in
    ap (put (at + length xs) ys) (put_fits at xs buffer (omega arith))
    ∙ put_fits (at + length xs) ys (over at xs buffer) (omega (arith, same))
    ∙ over_over at xs ys buffer (omega arith)

-- what stands before their end, where bytes were put
pub take_put : (at : ℕ) (bytes buffer : List ℕ) → at + length bytes ≤ length buffer
    → take (at + length bytes) (put at bytes buffer) ≡ take at buffer ++ bytes
unfolding over
take_put at bytes buffer h =
    ap (take (at + length bytes)) (put_fits at bytes buffer h)
    ∙ take_at (take at buffer ++ bytes) _ (at + length bytes) (simp (length-append, length-take) (omega arith))

-- bytes put at the start of what stands from a place on are put at that place
pub part_over : (at : ℕ) (bytes buffer : List ℕ)
    → take at buffer
    ++ (over 0 bytes (take (length buffer - at) (drop at buffer)) ++ drop (length buffer - at) (drop at buffer))
    ≡ over at bytes buffer
unfolding over
part_over at bytes buffer =
    let rest : List ℕ = drop at buffer in
    let long : length rest ≡ length buffer - at = length-drop at buffer in
    let all : take (length buffer - at) rest ≡ rest = take_all (length buffer - at) rest (omega (arith, long)) in
    let none : drop (length buffer - at) rest ≡ [] =
    drop_of_length-le rest {i = length buffer - at} (omega (arith, long)) in
    rw (
      all,
      none,
      zero-add (length bytes),
      append-nil (bytes ++ drop (length bytes) rest),
      drop-drop (length bytes) at buffer,
    )
    (sym (append_assoc (take at buffer) bytes (drop (at + length bytes) buffer)))

-- no bytes put are nothing changed
pub over_nil : (at : ℕ) (buffer : List ℕ) → over at [] buffer ≡ buffer
unfolding over
over_nil at buffer = rw (append-nil (take at buffer), add-zero at) (take-append-drop at buffer)

-- where there is no room, or only for nothing past the end, nothing is changed
nothing_put : (at : ℕ) (bytes buffer : List ℕ) (rule : RuleAt Nowhere) (fits : Bool)
    → leb (length bytes) (length buffer - at) ≡ fits
    → length buffer < at + length bytes → buffer ≡ if_clear (cond fits clear (broken rule)) (over at bytes buffer) buffer
nothing_put at bytes buffer rule false e h = refl
nothing_put at [] buffer rule true e h = sym (over_nil at buffer)
nothing_put at (x ∷ xs) buffer rule true e h = absurd (omega (arith, leb-true (length (x ∷ xs)) (length buffer - at) e))

pub short_refused : (at : ℕ) (bytes buffer : List ℕ) → length buffer < at + length bytes
    → (answer (fitting at bytes buffer) 0 ≡ put_answer at bytes buffer) × (buffer ≡ put at bytes buffer)
unfolding put_answer put
short_refused at bytes buffer h = (
  refl,
  nothing_put at bytes buffer (room_check (length bytes) (length buffer - at)).rule
      (leb (length bytes) (length buffer - at)) refl h,
)

-- what was put at the start stands there
pub take_over : (bytes buffer : List ℕ) → take (length bytes) (over 0 bytes buffer) ≡ bytes
unfolding over
take_over bytes buffer = take-append_seam bytes _
