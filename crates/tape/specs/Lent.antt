-- How many bytes a line lends: ROOM of docs/TAPE.md.
use Rattle.std.specs.Prelude.{List, ℕ, Option}
use Rattle.tape.specs.Words.{◌>>=◌, number_at, operands_of}
use Rattle.tape.specs.declared.words.Word.{Word}

-- the most that a line may lend
abbrev pub most_lent : ℕ
most_lent = 4096

-- the first word behind the letter
abbrev pub room_of : List ℕ → Option (Word ℕ)
room_of line = operands_of line >>= λ at. number_at line at most_lent
