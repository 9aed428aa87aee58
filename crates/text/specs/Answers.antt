-- The line of an answer.
use Rattle.std.specs.Prelude.{cond, [], ◌++◌, eqb}
use Rattle.text.specs.Digits.{number_after}
use Rattle.text.specs.Lines.{Line}
use Rattle.basis.specs.declared.answer.Answer.{Answer}

-- the answer's number, and beside 1 its two values
abbrev pub both_values : Answer → Line
both_values a = number_after " expected " a.first ++ number_after " actual " a.second

unfoldable pub answer_line : Answer → Line
answer_line a = number_after "answer " a.number ++ cond (eqb a.number 1) (both_values a) []
