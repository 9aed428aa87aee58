-- The captions of a packet, put into a buffer in two steps.
-- Assumes nothing.
use mathlib.Core.Bool.{Bool, true, false, cond}
use mathlib.Core.List.{List, [], ◌∷◌}
use mathlib.Core.Path.{◌≡◌, ◌∙◌, sym}
use Prim.Native.Nat.{ℕ, ◌+◌, ◌-◌, ◌*◌, ◌/◌, ◌%◌, ◌≤◌}
use native.Mathlib.Omega.{arith}
use lib.ListN.{drop, length, length-drop}
use lib.Seq.{length-take-le}
use Rattle.basis.proofs.Puts.{over_nil, put_put}
use Rattle.basis.specs.Bytes.{byte, over, part}
use Rattle.basis.specs.Code.{put}
use Rattle.values.specs.Layout.{caption_room, section_head_size, triplet_size}
use Rattle.read_captions.specs.Captions.{handed_out}

module _ (p : List ℕ) (i : ℕ) (buffer : List ℕ) (present : Bool) where
  -- what is left of the buffer
  abbrev after : List ℕ
  after = over 0 (cond present (handed_out p i) []) buffer

  pub nothing_out : present ≡ false → buffer ≡ after
  nothing_out h = rw h (sym (over_nil 0 buffer))

  -- the count, the two bytes in front and the captions behind them, as the code has them
  abbrev count : ℕ
  count = byte p (i + 1) % 32

  abbrev head : List ℕ
  head = (0xC0 + count) ∷ 0xFF ∷ []

  abbrev tail : List ℕ
  tail = part (i + section_head_size) (i + (section_head_size + triplet_size * count) - (i + section_head_size)) p

  module _ (there : present ≡ true) (fits : i + (section_head_size + triplet_size * count) ≤ length p)
      (room : caption_room ≤ length buffer) where
    as_count : byte p (i + 1) / 1 % 32 ≡ count
    as_count = omega arith

    as_size : i + (section_head_size + triplet_size * count) - (i + section_head_size) ≡ triplet_size * count
    as_size = omega arith

    long_tail : length tail ≡ triplet_size * count
    long_tail = length-take-le _ (drop (i + section_head_size) p) (rw length-drop (omega arith)) ∙ as_size

    pub all_out : put 2 tail (put 0 head buffer) ≡ after
    all_out = put_put 0 head tail buffer (omega (arith, long_tail)) ∙ rw (there, as_count, as_size)
