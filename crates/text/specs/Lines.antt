-- Lines of text.
use Rattle.std.specs.Prelude.{List, [], ◌∷◌, ◌++◌, ℕ}
use Rattle.text.specs.Ascii.{ascii}

-- a line without its end
abbrev pub Line : Type 0
Line = List ℕ

-- a line with its end
abbrev pub line_text : List ℕ → List ℕ
line_text line = line ++ ascii "\n"

-- lines one below the other
abbrev pub lines_text : List (List ℕ) → List ℕ
lines_text [] = []
lines_text (line ∷ lines) = line_text line ++ lines_text lines
