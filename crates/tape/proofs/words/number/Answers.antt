-- `words::number`: no digit, a number over the limit, or the number.
-- Assumes nothing.
use Rattle.std.proofs.Common.{arith}
use Rattle.tape.proofs.WordReads.{number_found, number_none, number_over, number_past, number_within}
use Rattle.tape.proofs.words.number.Goals as goal

pub returns-in_err-rest-clause-value : goal.returns-in_err-rest-clause-value
returns-in_err-rest-clause-value c =
    rw c.from_residual.ensures (number_past _ _ _ (omega (arith, c.in_err-rest.ensures.cases)))

pub returns-in_err-found-clause-value : goal.returns-in_err-found-clause-value
returns-in_err-found-clause-value c =
    rw c.from_residual-in_err-found.ensures
    (number_over _ _ _ _ c.in_ok-rest.ensures.cases.2 (omega (arith, c.in_err-found.ensures)))

pub returns-then-found-eq0-clause-value : goal.returns-then-found-eq0-clause-value
returns-then-found-eq0-clause-value c =
    number_none _ _ _ _ c.in_ok-rest.ensures.cases.2 (omega (arith, c.in_ok-found.ensures))

pub returns-then-most-found-clause-value : goal.returns-then-most-found-clause-value
returns-then-most-found-clause-value c =
    number_over _ _ _ _ c.in_ok-rest.ensures.cases.2 (omega (arith, c.in_ok-found.ensures))

pub overflow_add-result : goal.overflow_add-result
overflow_add-result c =
    let split = c.in_ok-rest.ensures.cases in
    omega (arith, c.in_ok-found.ensures, number_within c.args.line.now c.args.at c.args.most _ split.2 split.0)

pub returns-clause-value : goal.returns-clause-value
returns-clause-value c =
    number_found _ _ _ _ c.in_ok-rest.ensures.cases.2 _ _ c.in_ok-found.ensures.0 c.in_ok-found.ensures.1
    c.if-found-eq0.false (omega arith)
