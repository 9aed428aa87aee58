-- `dump::print`: what is handed on is the text of the input.
-- Assumes nothing.
use mathlib.Core.Path.{sym}
use Prim.Native.Nat.{ℕ}
use native.Mathlib.Omega.{arith}
use Rattle.text_dump.proofs.Printed.{printed, printed_size, printed_within}
use Rattle.dump.proofs.print.Goals as goal

pub slice_bounds-hand_on-end : goal.slice_bounds-hand_on-end
slice_bounds-hand_on-end g c =
    printed_within _ _ _ _ (λ (i : ℕ). omega (arith, c.type_inv.input i)) c.requires
    c.write_into-answer.ensures.value c.write_into-answer.ensures.out_after

pub slice_bounds-hand_on-end-2 : goal.slice_bounds-hand_on-end-2
slice_bounds-hand_on-end-2 g c =
    sym
    (printed_size _ _ _ _ (λ (i : ℕ). omega (arith, c.type_inv.input i)) c.requires
    c.write_into-answer.ensures.value c.write_into-answer.ensures.out_after)

pub hand_on-requires : goal.hand_on-requires
hand_on-requires g c =
    printed _ _ _ _ (λ (i : ℕ). omega (arith, c.type_inv.input i)) c.requires
    c.write_into-answer.ensures.value c.write_into-answer.ensures.out_after
