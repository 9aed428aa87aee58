-- Bytes put into a buffer that may be too short for them.
use Rattle.std.specs.Prelude.{◌≡◌, List, ℕ, ◌+◌, ◌-◌, length, take}
use Rattle.basis.specs.Bytes.{over}

-- as many of the bytes as there is room for from a place on
unfoldable pub fitting_part : ℕ → List ℕ → List ℕ → List ℕ
fitting_part at bytes buffer = take (length buffer - at) bytes

-- these are put: the place behind them, and the buffer from then on
pub record PutInRoom (at : ℕ) (bytes buffer : List ℕ) (end : ℕ) (after : List ℕ) : Type 0 where
  pub place : end ≡ at + length (fitting_part at bytes buffer)
  pub left : after ≡ over at (fitting_part at bytes buffer) buffer
