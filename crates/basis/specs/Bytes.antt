-- Bytes by their place, and bytes put into a lent buffer.
use Rattle.std.specs.Prelude.{List, ◌++◌, ℕ, ◌+◌, length, get_or, take, drop}

-- the byte at a place, 0 past the end
abbrev pub byte : List ℕ → ℕ → ℕ
byte bytes at = get_or bytes at 0

-- so many bytes from a place on, fewer where there are no more
abbrev pub part : ℕ → ℕ → List ℕ → List ℕ
part at count bytes = take count (drop at bytes)

-- the buffer with these bytes from a place on, and the rest as it was
unfoldable pub over : ℕ → List ℕ → List ℕ → List ℕ
over at bytes buffer = take at buffer ++ bytes ++ drop (at + length bytes) buffer
