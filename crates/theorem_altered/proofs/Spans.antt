-- Two packets of one size: where their parts are the same their bytes are, and where their bytes are their parts are.
-- Assumes nothing.
use mathlib.Core.List.{List}
use mathlib.Core.Path.{◌≡◌, ◌∙◌, sym, ap}
use Prim.Native.Nat.{ℕ, ◌+◌, ◌-◌, ◌≤◌, ◌<◌}
use native.Mathlib.Omega.{arith}
use lib.ListN.{drop, length, length-drop, length-take}
use lib.Seq.{ext_get_or}
use Rattle.basis.proofs.Places.{byte_of_part}
use Rattle.basis.specs.Bytes.{byte, part}

module _ (p q : List ℕ) where
  pub bytes_same : (at count : ℕ) → part at count q ≡ part at count p
      → (i : ℕ) → at ≤ i → i < at + count → byte q i ≡ byte p i
  bytes_same at count h i low high =
      let inside : i - at < count = omega arith in
      let place : at + (i - at) ≡ i = omega arith in
      ap (byte q) (sym place)
      ∙ sym (byte_of_part q at count (i - at) inside)
      ∙ ap (λ (d : List ℕ). byte d (i - at)) h
      ∙ byte_of_part p at count (i - at) inside
      ∙ ap (byte p) place

  part_long : length q ≡ length p → (at count : ℕ) → length (part at count q) ≡ length (part at count p)
  part_long size at count =
      rw (length-take count (drop at q), length-take count (drop at p), length-drop at q, length-drop at p, size)

  pub parts_same : length q ≡ length p → (at count : ℕ)
      → ((i : ℕ) → at ≤ i → i < at + count → byte q i ≡ byte p i) → part at count q ≡ part at count p
  parts_same size at count h =
      ext_get_or 0 (part at count q) (part at count p) (part_long size at count)
      (λ (i : ℕ) (inside : i < length (part at count q)).
      let few : i < count = omega (arith, inside, length-take count (drop at q)) in
      byte_of_part q at count i few
      ∙ h (at + i) (omega arith) (omega (arith, few))
      ∙ sym (byte_of_part p at count i few))
