-- The checksum of a packet whose last byte stands apart.
-- Assumes nothing.
use mathlib.Core.List.{List, [], ◌∷◌, ◌++◌}
use mathlib.Core.Path.{◌≡◌, ap}
use Prim.Native.Nat.{ℕ, ◌-◌}
use native.Mathlib.Omega.{arith}
use lib.ListN.{length, length-append}
use lib.Seq.{take_at}
use Rattle.values.specs.Checksum.{negative, total}
use Rattle.read_closing.specs.Closing.{checksum_of}

-- all bytes but the last are those that were summed up
pub checksum_is : (bytes : List ℕ) (last : ℕ) → checksum_of (bytes ++ last ∷ []) ≡ negative (total bytes)
checksum_is bytes last =
    ap (λ (xs : List ℕ). negative (total xs))
    (take_at bytes (last ∷ []) (length (bytes ++ last ∷ []) - 1) (simp (length-append) (omega arith)))
