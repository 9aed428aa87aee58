-- `sweep_reader::make::futures`: none, one or two.
-- Assumes nothing.
use Rattle.std.proofs.Common.{◌≡◌, ℕ, arith, eq-eqb, ne_eqb}
use Rattle.sweep_reader.specs.Make.{futures_made}
use Rattle.text.proofs.Rooms.{behind, nothing}
use Rattle.sweep_reader.proofs.make.futures.Goals as goal

pub returns-in-0 : goal.returns-in-0
unfolding futures_made
returns-in-0 c =
    simp (eq-eqb _ _ c.in-0.is) (nothing _ _)

pub returns-in-1 : goal.returns-in-1
unfolding futures_made
returns-in-1 c =
    rw c.in-1.is c.future.ensures

pub returns-in_default : goal.returns-in_default
unfolding futures_made
returns-in_default c =
    let count : ℕ = c.args.count in
    let none : count ≡ 0 → ⊥ = omega arith in
    let one : count ≡ 1 → ⊥ = omega arith in
    simp (ne_eqb _ _ none, ne_eqb _ _ one) (behind c.future-second.ensures c.future-in_default.ensures)
