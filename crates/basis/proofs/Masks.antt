-- The one table of masks: each arithmetic test of bits that code and definitions make is the mask that the rules name.
-- Assumes nothing.
use mathlib.Core.Path.{◌≡◌, ◌∙◌, ap, ap₂, sym, refl}
use mathlib.Core.Bool.{Bool, true, false, ◌&&◌}
use mathlib.Core.List.{List, [], ◌∷◌}
use Prim.Native.Nat.{ℕ, ◌-◌, ◌*◌, ◌/◌, ◌^◌}
use native.Mathlib.Nat.{zero-mul}
use borrow.Author.Tests.{eq-eqb, ne_eqb, eqb-true, eqb-false}
use lib.Bits.{bit_and, and_high}
use lib.Dec.{eqb}
use lib.Pow.{high_ones, shl-shr}
use Rattle.basis.proofs.Bools.{and_left, and_right}
use Rattle.basis.specs.Mask as Mask
use Rattle.basis.specs.Mask.{Mask, value, under, all_set, all_clear}

-- a mask and the number that the rules write for it
pub record Row : Type 0 where
  pub mask : Mask
  pub number : ℕ

abbrev row : Mask → ℕ → Row
row m n = record { mask = m; number = n }

abbrev pub rows : List Row
rows =
    row Mask.x80 0x80
    ∷ row Mask.x40 0x40
    ∷ row Mask.x20 0x20
    ∷ row Mask.x10 0x10
    ∷ row Mask.x08 0x08
    ∷ row Mask.x04 0x04
    ∷ row Mask.x02 0x02
    ∷ row Mask.xc0 0xC0
    ∷ row Mask.xe0 0xE0
    ∷ row Mask.xf0 0xF0
    ∷ row Mask.x70 0x70
    ∷ row Mask.x30 0x30
    ∷ row Mask.x3f 0x3F
    ∷ row Mask.x3e 0x3E
    ∷ row Mask.x1f 0x1F
    ∷ row Mask.x0f 0x0F
    ∷ row Mask.x01 0x01
    ∷ []

-- what a row says of every byte: the bits under the mask, that all of them are set, and that none is
pub record Tied (r : Row) : Type 0 where
  pub bits : (b : ℕ) → under r.mask b * 2 ^ r.mask.below ≡ bit_and b r.number
  pub set : (b : ℕ) → all_set r.mask b ≡ eqb (bit_and b r.number) r.number
  pub clear : (b : ℕ) → all_clear r.mask b ≡ eqb (bit_and b r.number) 0

abbrev pub All : List Row → Type 0
All [] = Unit
All (r ∷ rs) = Tied r × All rs

-- a factor 2 ^ k on both sides changes no test
scaled : (k x y : ℕ) (b : Bool) → eqb x y ≡ b → eqb (x * 2 ^ k) (y * 2 ^ k) ≡ b
scaled k x y true e = eq-eqb _ _ (ap (λ (n : ℕ). n * 2 ^ k) (eqb-true x y e))
scaled k x y false e =
    ne_eqb _ _ (λ h. eqb-false x y e (sym (shl-shr x k) ∙ ap (λ (n : ℕ). n / 2 ^ k) h ∙ shl-shr y k))

module _ (r : Row) (named : value r.mask ≡ r.number) (b : ℕ) where
  bits_are : under r.mask b * 2 ^ r.mask.below ≡ bit_and b r.number
  bits_are = sym (and_high b r.mask.ones r.mask.below) ∙ ap (bit_and b) named

  set_is : all_set r.mask b ≡ eqb (bit_and b r.number) r.number
  set_is =
      sym (scaled r.mask.below (under r.mask b) (2 ^ r.mask.ones - 1) _ refl)
      ∙ ap₂ eqb bits_are (sym (high_ones r.mask.ones r.mask.below) ∙ named)

  clear_is : all_clear r.mask b ≡ eqb (bit_and b r.number) 0
  clear_is =
      sym (scaled r.mask.below (under r.mask b) 0 _ refl) ∙ ap₂ eqb bits_are (zero-mul (2 ^ r.mask.below))

named : List Row → Bool
named [] = true
named (r ∷ rs) = eqb (value r.mask) r.number && named rs

tie : (rs : List Row) → named rs ≡ true → All rs
unfolding named
tie [] t = tt
tie (r ∷ rs) t =
    let e : value r.mask ≡ r.number = eqb-true _ _ (and_left _ (named rs) t) in (
      record { bits = bits_are r e; set = set_is r e; clear = clear_is r e },
      tie rs (and_right (eqb (value r.mask) r.number) (named rs) t),
    )

pub masks : All rows
unfolding named
masks = tie rows refl
