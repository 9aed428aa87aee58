-- What a tape prints of a reader that has no length to give.
use Rattle.std.specs.Prelude.{Option, Some, None}
use Rattle.basis.specs.Answer.{done, refused}
use Rattle.basis.specs.declared.answer.Answer.{Answer}
use Rattle.basis.specs.declared.refusal.Refused.{Refused}

abbrev pub outcome_answer : Option Refused → Answer
outcome_answer None = done 0
outcome_answer (Some r) = refused r.refusal
