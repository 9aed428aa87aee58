-- A whole text in a lent buffer.
use Rattle.std.specs.Prelude.{List, [], ◌∷◌, ℕ, length}
use Rattle.basis.specs.Check.{room_check, verdict}
use Rattle.basis.specs.Writing.{Written, written}

-- the most bytes that a program for the desks takes
abbrev pub most_input : ℕ
most_input = 4096

-- the text at the buffer's start, and its length with 0; or 11 with that and the buffer's length, and the buffer as it was
unfoldable pub text_written : List ℕ → List ℕ → Written
text_written text buffer = written (verdict (room_check (length text) (length buffer) ∷ [])) text buffer
