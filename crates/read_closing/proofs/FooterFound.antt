-- Where rules 8 and 9 are kept: the walk has come to a footer, so that as many turns as the packet has bytes are
-- enough, and the footer has its checksum.
-- Assumes nothing.
use mathlib.Core.Bool.{Bool, true, false, cond}
use mathlib.Core.List.{List, [], ◌++◌}
use mathlib.Core.Path.{◌≡◌, refl}
use Prim.Native.Nat.{ℕ, zero, suc, ◌+◌, ◌≤◌}
use native.Mathlib.Omega.{arith}
use borrow.Author.Tests.{eqb-true, leb-true}
use lib.Dec.{eqb}
use lib.ListN.{length}
use Rattle.basis.proofs.Verdicts.{append_second, kept_at_lem, kept_from}
use Rattle.basis.specs.Bytes.{byte}
use Rattle.basis.specs.Check.{Check, clear, verdict}
use Rattle.read_closing.specs.Closing.{
  checksum_of,
  closing_checks,
  footer_checks,
  footer_from,
  future_checks,
  future_checks_at,
  future_length,
}

-- the two that are kept of a future section: the size of what stands behind it, and the checks from there on
module _ (p : List ℕ) (i : ℕ) (behind : List Check) (h : verdict (future_checks_at p i ++ behind) ≡ clear) where
  next_fits : i + 2 + future_length p i + 2 ≤ length p
  next_fits = leb-true _ _ (kept_at_lem 2 (future_checks_at p i ++ behind) h)

  behind_clear : verdict behind ≡ clear
  behind_clear = kept_from 3 (future_checks_at p i ++ behind) h

module _ (p : List ℕ) where
  turn : (found : Bool) (turns i : ℕ) → eqb (byte p i) 0x74 ≡ found
      → (i + 2 + future_length p i + 2 ≤ length p → verdict (future_checks turns p (i + 2 + future_length p i)) ≡ clear
      → byte p (footer_from turns p (i + 2 + future_length p i)) ≡ 0x74)
      → verdict (cond found [] (future_checks_at p i ++ future_checks turns p (i + 2 + future_length p i))) ≡ clear
      → byte p (cond found i (footer_from turns p (i + 2 + future_length p i))) ≡ 0x74
  turn true turns i e later h = eqb-true _ _ e
  turn false turns i e later h =
      let behind : List Check = future_checks turns p (i + 2 + future_length p i) in
      later (next_fits p i behind h) (behind_clear p i behind h)

  pub footer_found : (turns i : ℕ) → length p ≤ turns + i → i + 2 ≤ length p
      → verdict (future_checks turns p i) ≡ clear → byte p (footer_from turns p i) ≡ 0x74
  footer_found zero i enough fits h = absurd (omega arith)
  footer_found (suc turns) i enough fits h =
      turn (eqb (byte p i) 0x74) turns i refl (λ a b. footer_found turns (i + 2 + future_length p i) (omega arith) a b) h

-- an accepted footer has its checksum
pub checksum_kept : (p : List ℕ) (sequence i : ℕ) → verdict (closing_checks p sequence i) ≡ clear
    → byte p (footer_from (length p) p i + 3) ≡ checksum_of p
unfolding closing_checks
checksum_kept p sequence i h =
    let footer : List Check = footer_checks p sequence (footer_from (length p) p i) in
    let behind : verdict (future_checks (length p) p i ++ footer) ≡ clear = kept_from 1 (closing_checks p sequence i) h in
    eqb-true _ _ (kept_at_lem 2 footer (append_second (future_checks (length p) p i) footer behind))
