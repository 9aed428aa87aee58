-- The places of what rules 8 and 9 refuse: each inside the packet, or its end beside 1.
-- Assumes nothing.
use mathlib.Core.List.{List}
use Prim.Native.Nat.{ℕ, zero, suc, ◌+◌, ◌≤◌}
use native.Mathlib.Omega.{arith}
use borrow.Author.Tests.{lt-ltb}
use lib.Dec.{eqb}
use lib.ListN.{length}
use Rattle.basis.proofs.Holds.{Inside, at_size, both, fixed, none, unless_found}
use Rattle.basis.specs.Bytes.{byte}
use Rattle.values.specs.Layout.{footer_id, footer_size}
use Rattle.read_closing.specs.Closing.{closing_checks, footer_checks, footer_from, future_checks, future_length}

module _ (p : List ℕ) where
  future_inside : (turns i : ℕ) → i + 2 ≤ length p → Inside (length p) (future_checks turns p i)
  future_inside zero i fits = none
  future_inside (suc turns) i fits =
      unless_found (eqb (byte p i) footer_id)
      (fixed (lt-ltb i (length p) (omega arith))
      (at_size p (i + 1 + future_length p i)
      (λ _. at_size p (i + 2 + future_length p i + 2) (λ next. future_inside turns (i + 2 + future_length p i) next))))

  footer_inside : (sequence i : ℕ) → Inside (length p) (footer_checks p sequence i)
  footer_inside sequence i =
      at_size p (i + footer_size)
      (λ fits. fixed (lt-ltb (i + 1) (length p) (omega arith)) (fixed (lt-ltb (i + 3) (length p) (omega arith)) none))

  pub closing_inside : (sequence i : ℕ) → Inside (length p) (closing_checks p sequence i)
  unfolding closing_checks
  closing_inside sequence i =
      let at : ℕ = footer_from (length p) p i in
      at_size p (i + 2)
      (λ fits. both (future_checks (length p) p i) (footer_checks p sequence at) (future_inside (length p) i fits)
      (footer_inside sequence at))
