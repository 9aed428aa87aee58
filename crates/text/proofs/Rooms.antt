-- Bytes put into a buffer that may be too short: none, one, and others behind them.
-- Assumes nothing.
use mathlib.Core.Path.{◌≡◌, ◌∙◌, sym, ap}
use mathlib.Core.List.{List, [], ◌∷◌, ◌++◌}
use mathlib.Core.Logic.{⊎_elim}
use Prim.Native.Nat.{ℕ, zero, suc, ◌+◌, ◌-◌, ◌≤◌, ◌<◌}
use native.Mathlib.Nat.{eq-zero-or-pos, sub-zero, zero-add}
use native.Mathlib.Numerals.{add-one}
use native.Mathlib.Omega.{arith}
use lib.ListN.{
  length,
  get_or,
  replicate,
  set,
  take,
  drop,
  length-append,
  length-drop,
  length-take,
  replicate-append-replicate,
}
use lib.Seq.{append_snoc, drop_at, set_out, set_split, take_all, take-suc}
use Rattle.basis.proofs.Puts.{over_nil, over_over, take_over}
use Rattle.basis.specs.Bytes.{over}
use Rattle.text.specs.Room.{PutInRoom, fitting_part}

-- as many of two runs as there is room for
take_join : (n : ℕ) (xs ys : List ℕ) → take n xs ++ take (n - length xs) ys ≡ take n (xs ++ ys)
take_join zero xs ys =
    let k : zero - length xs ≡ 0 = omega arith in
    rw k
take_join (suc n) [] ys = rw (sub-zero (suc n))
take_join (suc n) (x ∷ xs) ys =
    let k : suc n - suc (length xs) ≡ n - length xs = omega arith in
    ap (λ (l : List ℕ). x ∷ l) (rw k (take_join n xs ys))

module _ (at : ℕ) (xs buffer : List ℕ) where
  same_room : length (over at (fitting_part at xs buffer) buffer) ≡ length buffer
  unfolding over fitting_part
  same_room = simp (length-append, length-drop, length-take) (omega arith)

  none_fits : length buffer - at ≡ 0 → fitting_part at xs buffer ≡ []
  unfolding fitting_part
  none_fits h = rw h

-- the second run goes where the first one ends
module _ (at : ℕ) (xs ys buffer after : List ℕ) (same : length after ≡ length buffer) where
  both_fit : fitting_part at xs buffer ++ fitting_part (at + length (fitting_part at xs buffer)) ys after
      ≡ fitting_part at (xs ++ ys) buffer
  unfolding fitting_part
  both_fit =
      let n : ℕ = length buffer - at in
      let k : length after - (at + length (take n xs)) ≡ n - length xs = simp length-take (omega arith) in
      rw k (take_join n xs ys)

overs_none : (at : ℕ) (xs ys buffer : List ℕ) → xs ≡ [] → ys ≡ []
    → over (at + length xs) ys (over at xs buffer) ≡ over at (xs ++ ys) buffer
overs_none at xs ys buffer e f = rw (e, f) (over_nil (at + 0) (over at [] buffer))

-- none
no_bytes : (at : ℕ) (buffer : List ℕ) → fitting_part at [] buffer ≡ []
unfolding fitting_part
no_bytes at buffer = take_all (length buffer - at) [] (omega arith)

pub nothing : (at : ℕ) (buffer : List ℕ) → PutInRoom at [] buffer at buffer
nothing at buffer =
    record { place = rw (no_bytes at buffer) (omega arith); left = rw (no_bytes at buffer) (sym (over_nil at buffer)) }

-- one, where there is room and where there is none
module _ (at b : ℕ) (buffer : List ℕ) where
  one_fits : at < length buffer → fitting_part at (b ∷ []) buffer ≡ b ∷ []
  unfolding fitting_part
  one_fits h = take_all (length buffer - at) (b ∷ []) (omega arith)

  over_one : at < length buffer → over at (b ∷ []) buffer ≡ set buffer at b
  unfolding over
  over_one h = rw (add-one at, append_snoc (take at buffer) b (drop (suc at) buffer)) (sym (set_split buffer at b h))

  pub one : at < length buffer → PutInRoom at (b ∷ []) buffer (at + 1) (set buffer at b)
  one h = record { place = rw (one_fits h); left = rw (one_fits h) (sym (over_one h)) }

  pub no_room : length buffer ≤ at → PutInRoom at (b ∷ []) buffer at buffer
  no_room h =
      let none : fitting_part at (b ∷ []) buffer ≡ [] = none_fits at (b ∷ []) buffer (omega arith) in
      record { place = rw none (omega arith); left = rw none (sym (over_nil at buffer)) }

  set_fits : set buffer at b ≡ over at (fitting_part at (b ∷ []) buffer) buffer
  set_fits =
      ⊎_elim
      (λ h. set_out buffer at b (omega (arith, h)) ∙ (no_room (omega (arith, h))).left)
      (λ h. (one (omega (arith, h))).left)
      (eq-zero-or-pos (length buffer - at))

  -- one byte that is put is set
  pub put_set : {end : ℕ} {after : List ℕ} → PutInRoom at (b ∷ []) buffer end after → after ≡ set buffer at b
  put_set p = p.left ∙ sym set_fits

-- others behind them
pub behind : {at mid end : ℕ} {xs ys buffer between after : List ℕ} → PutInRoom at xs buffer mid between
    → PutInRoom mid ys between end after
    → PutInRoom at (xs ++ ys) buffer end after
behind {at} {mid} {end} {xs} {ys} {buffer} {between} {after} p q =
    let w : List ℕ = fitting_part at xs buffer in
    let v : List ℕ = fitting_part (at + length w) ys between in
    let same : length between ≡ length buffer = ap length p.left ∙ same_room at xs buffer in
    let both : w ++ v ≡ fitting_part at (xs ++ ys) buffer = both_fit at xs ys buffer between same in
    let end_is : end ≡ at + length w + length v = rw p.place at q.place in
    let after_is : after ≡ over (at + length w) v between = rw p.place at q.left in
    let joined : over (at + length w) v (over at w buffer) ≡ over at (w ++ v) buffer =
    ⊎_elim
    (λ h. overs_none at w v buffer (none_fits at xs buffer h)
    (none_fits (at + length w) ys between (omega (arith, h, same))))
    (λ h. over_over at w v buffer (omega (arith, h)))
    (eq-zero-or-pos (length buffer - at)) in
    record {
      place = rw (← both, length-append w v) (omega (arith, end_is));
      left = rw (← both) (after_is ∙ ap (over (at + length w) v) p.left ∙ joined);
    }

-- the same where both runs are another
pub behind_as : {at mid end : ℕ} {xs ys zs buffer between after : List ℕ} → PutInRoom at xs buffer mid between
    → PutInRoom mid ys between end after → xs ++ ys ≡ zs
    → PutInRoom at zs buffer end after
behind_as p q e = rw e at (behind p q)

-- one more of a run of bytes, and of one byte again and again
pub one_more : (xs : List ℕ) (k : ℕ) → k < length xs → take k xs ++ get_or xs k 0 ∷ [] ≡ take (k + 1) xs
one_more xs k h = rw (add-one k) (sym (take-suc xs k 0 h))

pub again : (k b : ℕ) → replicate k b ++ b ∷ [] ≡ replicate (k + 1) b
again k b = replicate-append-replicate k 1 b

-- what is put at the start: as much as there is room for, and it stands there
module _ {end : ℕ} {bytes buffer after : List ℕ} (p : PutInRoom 0 bytes buffer end after) where
  pub put_within : end ≤ length buffer
  unfolding fitting_part
  put_within = omega (arith, p.place, length-take (length buffer - 0) bytes)

  whole : after ≡ over 0 (take (length buffer) bytes) buffer
  unfolding fitting_part
  whole = rw (sub-zero (length buffer)) at p.left

  pub put_size : end ≡ length (take (length buffer) bytes)
  unfolding fitting_part
  put_size = rw (sub-zero (length buffer), zero-add (length (take (length buffer) bytes))) at p.place

  pub put_there : take end after ≡ take (length buffer) bytes
  put_there = rw (put_size, whole) (take_over (take (length buffer) bytes) buffer)

  -- other bytes of the same length in their place
  pub put_again : (other : List ℕ) → length other ≡ end → other ++ drop end after ≡ over 0 other buffer
  unfolding over
  put_again other same =
      let w : List ℕ = take (length buffer) bytes in
      let w_end : 0 + length w ≡ end = omega (arith, put_size) in
      let other_end : 0 + length other ≡ end = omega (arith, same) in
      let rest : drop end after ≡ drop (0 + length w) buffer =
      ap (drop end) whole ∙ drop_at w (drop (0 + length w) buffer) end (sym put_size) in
      rw (rest, w_end, other_end)

  -- as many bytes as were put
  pub put_counts : length (take end after) ≡ end
  put_counts = ap length put_there ∙ sym put_size

  -- all of them, where there is room
  pub all_there : length bytes ≤ length buffer → take end after ≡ bytes
  all_there h = put_there ∙ take_all (length buffer) bytes h
