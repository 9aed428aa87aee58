-- What a call that writes into a lent buffer leaves.
use Rattle.std.specs.Prelude.{List, ℕ, length}
use Rattle.basis.specs.Bytes.{over}
use Rattle.basis.specs.Check.{WriteVerdict, answer, if_clear}
use Rattle.basis.specs.declared.answer.Answer.{Answer}

-- what a writer leaves: its answer, and the lent buffer whole
pub record Written : Type 0 where
  pub answer : Answer
  pub buffer : List ℕ

-- these bytes from the buffer's start on, where all is clear; else the buffer as it was
abbrev pub written : WriteVerdict → List ℕ → List ℕ → Written
written v bytes buffer = record { answer = answer v (length bytes); buffer = if_clear v (over 0 bytes buffer) buffer }
