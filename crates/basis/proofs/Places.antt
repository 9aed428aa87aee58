-- What stands from a place on: its bytes, and what stands further on.
-- Assumes nothing.
use mathlib.Core.List.{List, ◌++◌}
use mathlib.Core.Path.{◌≡◌, ◌∙◌, sym, ap}
use Prim.Native.Nat.{ℕ, ◌+◌, ◌<◌}
use lib.ListN.{drop, length, take}
use lib.Seq.{drop-append_seam, drop-drop, get_or-drop, get_or-take, take-append_seam}
use Rattle.basis.specs.Bytes.{byte, part}

module _ (p : List ℕ) (i : ℕ) where
  -- a byte of a part is the packet's
  pub byte_of_part : (size j : ℕ) → j < size → byte (part i size p) j ≡ byte p (i + j)
  byte_of_part size j h = get_or-take size (drop i p) j 0 h ∙ get_or-drop i p j 0

  pub byte_on : (xs : List ℕ) → drop i p ≡ xs → (j : ℕ) → byte p (i + j) ≡ byte xs j
  byte_on xs h j = sym (get_or-drop i p j 0) ∙ ap (λ (ys : List ℕ). byte ys j) h

  module _ (xs ys : List ℕ) (h : drop i p ≡ xs ++ ys) (n : ℕ) (long : n ≡ length xs) where
    pub part_on : part i n p ≡ xs
    part_on = ap (take n) h ∙ ap (λ (m : ℕ). take m (xs ++ ys)) long ∙ take-append_seam xs ys

    pub further_on : drop (i + n) p ≡ ys
    further_on = sym (drop-drop n i p) ∙ ap (drop n) h ∙ ap (λ (m : ℕ). drop m (xs ++ ys)) long ∙ drop-append_seam xs ys
