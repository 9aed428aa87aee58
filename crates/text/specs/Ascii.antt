-- Words as definitions quote them.
use Rattle.std.specs.Prelude.{List, [] as none, ◌∷◌ as ◌before◌, ℕ}
use Prim.Native.Char.{code}
use Prim.Native.String.{String, [], ◌∷◌}

-- a quoted text as bytes, one for each of its characters, which are all ASCII
abbrev pub ascii : String → List ℕ
ascii [] = none
ascii (c ∷ rest) = code c before ascii rest
