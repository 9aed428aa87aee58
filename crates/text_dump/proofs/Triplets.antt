-- The triplets of a list, behind two bytes.
-- Assumes nothing.
use mathlib.Core.List.{List, ◌++◌}
use mathlib.Core.Path.{◌≡◌, ◌∙◌, sym, ap}
use Prim.Native.Nat.{ℕ, zero, suc, ◌+◌, ◌-◌, ◌*◌, ◌<◌}
use native.Mathlib.Omega.{arith}
use lib.ListN.{length, get_or, drop, take, length-drop}
use lib.Seq.{take_all}
use Rattle.std.specs.Simd.{first_chunks}
use Rattle.std.proofs.lemmas.List.{get_or-drop, get_or-take}
use Rattle.basis.specs.Bytes.{byte}
use Rattle.text.specs.Digits.{hex_after}
use Rattle.text_dump.specs.Lines.{triplet_line}

in_chunk : (n k j : ℕ) (xs d : List ℕ) → k < n → j < 3
    → byte (get_or (first_chunks 3 n xs) k d) j ≡ byte xs (3 * k + j)
in_chunk zero k j xs d h b = absurd (omega (arith, h))
in_chunk (suc n) zero j xs d h b =
    let at : 3 * 0 + j ≡ j = omega arith in
    get_or-take 3 xs j 0 b ∙ ap (byte xs) (sym at)
in_chunk (suc n) (suc k) j xs d h b =
    let at : 3 * suc k + j ≡ 3 + (3 * k + j) = omega arith in
    in_chunk n k j (drop 3 xs) d (omega (arith, h)) b ∙ get_or-drop 3 xs (3 * k + j) 0 ∙ ap (byte xs) (sym at)

-- the bytes of the k-th are those that its line has
module _ (handed_out : List ℕ) (whole : List (List ℕ)) (d : List ℕ) (n k : ℕ)
    (front : whole ≡ first_chunks 3 n (take (length handed_out - 2) (drop 2 handed_out)))
    (many : length whole ≡ n) (inside : k < length whole) where
  below : k < n
  below = omega (arith, many, inside)

  in_triplet : (j at : ℕ) → j < 3 → at ≡ 2 + (3 * k + j) → byte (get_or whole k d) j ≡ byte handed_out at
  in_triplet j at b e =
      let all : take (length handed_out - 2) (drop 2 handed_out) ≡ drop 2 handed_out =
      take_all (length handed_out - 2) (drop 2 handed_out) (omega (arith, length-drop 2 handed_out)) in
      rw (front, all) (in_chunk n k j (drop 2 handed_out) d below b ∙ get_or-drop 2 handed_out (3 * k + j) 0 ∙ ap (byte handed_out) (sym e))

  pub triplet_is : hex_after "" (byte (get_or whole k d) 0) ++ hex_after " " (byte (get_or whole k d) 1)
      ++ hex_after " " (byte (get_or whole k d) 2)
      ≡ triplet_line handed_out k
  triplet_is =
      rw (
        in_triplet 0 (2 + 3 * k) (omega arith) (omega arith),
        in_triplet 1 (2 + 3 * k + 1) (omega arith) (omega arith),
        in_triplet 2 (2 + 3 * k + 2) (omega arith) (omega arith),
      )
