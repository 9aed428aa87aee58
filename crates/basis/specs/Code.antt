-- Follows the code and not the rules: what testing a part gives, what putting bytes leaves, and the constants that are held.
use Rattle.std.specs.Prelude.{List, [], ◌∷◌, ℕ, ◌-◌, Result, Ok, Err, length}
use Rattle.basis.specs.Answer.{done, refused}
use Rattle.basis.specs.declared.answer.Answer.{Answer}
use Rattle.basis.specs.declared.refusal.Refused.{Refused}
use Rattle.basis.specs.Check.{room_check, Verdict, WriteVerdict, verdict, answer, if_clear, read_as}
use Rattle.basis.specs.Bytes.{over}

-- what testing gives, and what testing a part gives: its size
abbrev pub outcome : Verdict → Result Unit Refused
outcome v = read_as v tt

abbrev pub tested : Verdict → ℕ → Result ℕ Refused
tested v size = read_as v size

-- the answer of a part in the table; its size is no value of it
abbrev pub part_answer : Result ℕ Refused → Answer
part_answer (Ok size) = done 0
part_answer (Err r) = refused r.refusal

-- whether bytes fit into a buffer from a place on
abbrev pub fitting : ℕ → List ℕ → List ℕ → WriteVerdict
fitting at bytes buffer = verdict (room_check (length bytes) (length buffer - at) ∷ [])

-- what putting them there answers, 11 with the bytes needed and those lent from the place on; and what it leaves, beside 11 the
-- buffer as it was
unfoldable pub put_answer : ℕ → List ℕ → List ℕ → Answer
put_answer at bytes buffer = answer (fitting at bytes buffer) 0

unfoldable pub put : ℕ → List ℕ → List ℕ → List ℕ
put at bytes buffer = if_clear (fitting at bytes buffer) (over at bytes buffer) buffer
