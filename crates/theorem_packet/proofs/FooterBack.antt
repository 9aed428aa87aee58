-- The footer read back: the sequence again, and the checksum of all before it.
-- Assumes nothing.
use mathlib.Core.List.{List, [], ◌∷◌, ◌++◌}
use mathlib.Core.Path.{◌≡◌, ◌∙◌, sym}
use Prim.Native.Nat.{ℕ, ◌+◌, ◌*◌}
use native.Mathlib.Nat.{add-zero}
use native.Mathlib.Omega.{arith}
use lib.ListN.{drop, length}
use Rattle.basis.proofs.Readings.{given_clear}
use Rattle.basis.specs.Bytes.{byte}
use Rattle.basis.specs.Check.{clear, verdict}
use Rattle.values.specs.Layout.{footer_id, footer_size}
use Rattle.read_closing.proofs.ClosingReads.{begins, footer_reached, footer_whole}
use Rattle.read_closing.specs.Closing.{checksum_of, closing_checks}
use Rattle.read_closing.specs.Code.{closing_read}
use Rattle.write_bytes.specs.PacketWriting.{footer_bytes}
use Rattle.basis.proofs.Places.{byte_on}

module _ (p : List ℕ) (i sequence sum : ℕ) (h : drop i p ≡ footer_bytes sequence ++ sum ∷ [])
    (size : length p ≡ i + footer_size) (right : sum ≡ checksum_of p) where
  abbrev bytes : List ℕ
  bytes = footer_bytes sequence ++ sum ∷ []

  id : byte p i ≡ footer_id
  id = rw add-zero at (byte_on p i bytes h 0)

  same : byte p (i + 1) * 256 + byte p (i + 2) ≡ sequence
  same = rw (byte_on p i bytes h 1, byte_on p i bytes h 2) (omega arith)

  pub closing_clear : verdict (closing_checks p sequence i) ≡ clear
  unfolding closing_read
  closing_clear =
      let whole = footer_whole p sequence i (omega (arith, size)) same (byte_on p i bytes h 3 ∙ right) in
      let read = whole ∙ footer_reached p sequence i i (begins p sequence i (omega (arith, size))) id in
      given_clear _ (verdict (closing_checks p sequence i)) tt tt (sym read)
