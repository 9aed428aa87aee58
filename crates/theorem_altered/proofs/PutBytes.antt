-- Bytes put into a packet, and a packet mended: what stays, and what stands there.
-- Assumes nothing.
use mathlib.Core.List.{List, [], ◌∷◌, ◌++◌, append_assoc}
use mathlib.Core.Path.{◌≡◌, ◌∙◌, sym, refl, ap}
use Prim.Native.Nat.{ℕ, ◌+◌, ◌-◌, ◌≤◌, ◌<◌}
use native.Mathlib.Omega.{arith}
use lib.ListN.{drop, length, length-append, take, get_or-append}
use lib.Seq.{drop_at, get_or-append-add, get_or_at, get_or-drop, get_or-take, length-take-le}
use Rattle.basis.proofs.Places.{part_on}
use Rattle.basis.specs.Bytes.{byte, over, part}
use Rattle.read_closing.proofs.Checksums.{checksum_is}
use Rattle.read_closing.specs.Closing.{checksum_of}
use Rattle.theorem_altered.specs.Mending.{mended}

-- bytes put into a packet leave what stands before and behind them, and stand there
module _ (at : ℕ) (xs p : List ℕ) (fits : at + length xs ≤ length p) where
  abbrev head : List ℕ
  head = take at p ++ xs

  abbrev rest : List ℕ
  rest = drop (at + length xs) p

  start_long : length (take at p) ≡ at
  start_long = length-take-le at p (omega (arith, fits))

  head_long : length head ≡ at + length xs
  head_long = length-append (take at p) xs ∙ ap (λ (n : ℕ). n + length xs) start_long

  pub over_before : (i : ℕ) → i < at → byte (over at xs p) i ≡ byte p i
  unfolding over
  over_before i h =
      get_or-append head rest 0 i (omega (arith, h, head_long))
      ∙ get_or-append (take at p) xs 0 i (omega (arith, h, start_long))
      ∙ get_or-take at p i 0 h

  pub over_behind : (i : ℕ) → at + length xs ≤ i → byte (over at xs p) i ≡ byte p i
  unfolding over
  over_behind i h =
      let j : ℕ = i - (at + length xs) in
      let place : i ≡ length head + j = omega (arith, h, head_long) in
      ap (byte (head ++ rest)) place
      ∙ get_or-append-add head rest j 0
      ∙ get_or-drop (at + length xs) p j 0
      ∙ ap (byte p) (omega (arith, h))

  pub over_inside : part at (length xs) (over at xs p) ≡ xs
  unfolding over
  over_inside =
      part_on (head ++ rest) at xs rest
      (ap (drop at) (append_assoc (take at p) xs rest) ∙ drop_at (take at p) (xs ++ rest) at start_long)
      (length xs) refl

-- mending changes the last byte alone
module _ (r : List ℕ) (some : 1 ≤ length r) where
  front_long : length (take (length r - 1) r) ≡ length r - 1
  front_long = length-take-le (length r - 1) r (omega arith)

  pub mended_long : length (mended r) ≡ length r
  mended_long = length-append (take (length r - 1) r) (checksum_of r ∷ []) ∙ omega (arith, front_long, some)

  pub mended_before : (i : ℕ) → i < length r - 1 → byte (mended r) i ≡ byte r i
  mended_before i h =
      get_or-append (take (length r - 1) r) (checksum_of r ∷ []) 0 i (omega (arith, h, front_long))
      ∙ get_or-take (length r - 1) r i 0 h

  pub mended_last : byte (mended r) (length (mended r) - 1) ≡ checksum_of (mended r)
  mended_last =
      ap (λ (n : ℕ). byte (mended r) (n - 1)) mended_long
      ∙ get_or_at (take (length r - 1) r) (checksum_of r) [] 0 (length r - 1) front_long
      ∙ sym (checksum_is (take (length r - 1) r) (checksum_of r))
