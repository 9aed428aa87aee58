-- What a byte is compared with, as the code finds it.
-- Assumes nothing.
use mathlib.Core.List.{List, [], ◌∷◌}
use mathlib.Core.Path.{◌≡◌, refl}
use Prim.Native.Nat.{ℕ, ◌+◌, ◌/◌, ◌%◌}
use native.Mathlib.Omega.{arith}
use borrow.Author.Tests.{eq-eqb, ne_eqb}
use lib.ListN.{length}
use Rattle.basis.specs.Bytes.{byte}
use Rattle.values.specs.Checksum.{negative, total}
use Rattle.read_closing.specs.Closing.{checksum_of}
use Rattle.explain_tests.proofs.SameByte.{six_bits}
use Rattle.explain_tests.specs.Tests.{number_wanted}

module _ (p : List ℕ) (place : ℕ) where
  pub digital_number : byte p (place + 4) / 128 % 2 ≡ 1 → byte p (place + 4) % 64 ≡ number_wanted p place
  digital_number h = simp (eq-eqb _ _ h, six_bits (byte p (place + 4)))

  pub field_number : (byte p (place + 4) / 128 % 2 ≡ 1 → ⊥) → 0 ≡ number_wanted p place
  field_number h = simp (ne_eqb _ _ h)

-- an empty packet has no last byte
pub none_summed : (p : List ℕ) → length p ≡ 0 → negative (total p) ≡ checksum_of p
none_summed [] h = refl
none_summed (b ∷ p) h = absurd (omega arith)
