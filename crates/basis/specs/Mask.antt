-- Bits of a byte, by masks whose ones stand side by side. Every mask that the rules name is one.
use Rattle.std.specs.Prelude.{Bool, cond, ℕ, ◌+◌, ◌-◌, ◌/◌, ◌%◌, ◌^◌, eqb}

-- so many ones above so many zeros
pub record Mask : Type 0 where
  pub ones : ℕ
  pub below : ℕ

abbrev pub bit_run : ℕ → ℕ → Mask
bit_run ones below = record { ones = ones; below = below }

-- the mask as the number that the rules write
abbrev pub value : Mask → ℕ
value m = 2 ^ (m.ones + m.below) - 2 ^ m.below

-- the bits of b under the mask, as a number of their own: b & mask, moved down
abbrev pub under : Mask → ℕ → ℕ
under m b = b / 2 ^ m.below % 2 ^ m.ones

-- b & mask is the mask
abbrev pub all_set : Mask → ℕ → Bool
all_set m b = eqb (under m b) (2 ^ m.ones - 1)

-- b & mask is 0
abbrev pub all_clear : Mask → ℕ → Bool
all_clear m b = eqb (under m b) 0

-- Writing: the mask where the flag is on, else 0
abbrev pub flag : Bool → ℕ → ℕ
flag on mask = cond on mask 0

-- the masks of the rules; proofs/Masks.antt ties each to its number and to b & mask
abbrev pub x80 : Mask
x80 = bit_run 1 7

abbrev pub x40 : Mask
x40 = bit_run 1 6

abbrev pub x20 : Mask
x20 = bit_run 1 5

abbrev pub x10 : Mask
x10 = bit_run 1 4

abbrev pub x08 : Mask
x08 = bit_run 1 3

abbrev pub x04 : Mask
x04 = bit_run 1 2

abbrev pub x02 : Mask
x02 = bit_run 1 1

abbrev pub xc0 : Mask
xc0 = bit_run 2 6

abbrev pub xe0 : Mask
xe0 = bit_run 3 5

abbrev pub xf0 : Mask
xf0 = bit_run 4 4

abbrev pub x70 : Mask
x70 = bit_run 3 4

abbrev pub x30 : Mask
x30 = bit_run 2 4

abbrev pub x3f : Mask
x3f = bit_run 6 0

abbrev pub x3e : Mask
x3e = bit_run 5 1

abbrev pub x1f : Mask
x1f = bit_run 5 0

abbrev pub x0f : Mask
x0f = bit_run 4 0

abbrev pub x01 : Mask
x01 = bit_run 1 0
