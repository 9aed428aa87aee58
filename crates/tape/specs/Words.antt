-- The plain words of a tape, as docs/TAPE.md has them: what each gives at a place of a line, and the place behind it; `None`
-- where it is malformed.
use Rattle.std.specs.Prelude.{Bool, true, false, ◌&&◌, List, [], ◌∷◌, ℕ, zero, suc, ◌+◌, ◌-◌, ◌*◌, eqb, leb, ltb, length, drop, Option, Some, None, option_and_then, if◌then◌else◌}
use Rattle.std.specs.Char.{is_ascii_digit}
use Rattle.basis.specs.Bytes.{byte, over}
use Rattle.tape.specs.declared.words.Word.{Word}

-- of words in a row all are malformed where one is
infixl 10 ◌>>=◌
abbrev pub ◌>>=◌ : {A B : Type 0} → Option A → (A → Option B) → Option B
o >>= f = option_and_then f o

abbrev pub word : {A : Type 0} → A → ℕ → Word A
word value next = record { value = value; next = next }

-- the place behind a mark, where the mark is the byte at this place
unfoldable pub mark_at : List ℕ → ℕ → ℕ → Option ℕ
mark_at line at mark = if ltb at (length line) && eqb (byte line at) mark then Some (at + 1) else None

-- the line ends here
abbrev pub ends_at : List ℕ → ℕ → Bool
ends_at line at = eqb at (length line)

-- the place of the words behind the letter of an operation and its space
abbrev pub operands_of : List ℕ → Option ℕ
operands_of line = mark_at line 1 32

-- off behind a 0, else on behind a 1
unfoldable pub flag_at : List ℕ → ℕ → Option (Word Bool)
flag_at line at = elim (mark_at line at 48) [
  | Some next ↦ Some (word false next)
  | None ↦ (mark_at line at 49 >>= λ next. Some (word true next))
]

-- the value of a digit, 0 to 9 and a to f
unfoldable pub digit_value : ℕ → Option ℕ
digit_value c =
    if leb 48 c && leb c 57 then Some (c - 48) else (if leb 97 c && leb c 102 then Some (c - 97 + 10) else None)

-- the decimal digits that these bytes begin with
unfoldable pub digits_of : List ℕ → List ℕ
digits_of [] = []
digits_of (c ∷ cs) = if is_ascii_digit c then (c - 48) ∷ digits_of cs else []

-- the number that these digits make behind those of another number
unfoldable pub decimal : ℕ → List ℕ → ℕ
decimal before [] = before
decimal before (d ∷ ds) = decimal (before * 10 + d) ds

-- one digit or more, which make a number up to this limit
abbrev pub number_of_digits : List ℕ → ℕ → ℕ → Option (Word ℕ)
number_of_digits [] at most = None
number_of_digits (d ∷ ds) at most =
    if leb (decimal 0 (d ∷ ds)) most then Some (word (decimal 0 (d ∷ ds)) (at + length (d ∷ ds))) else None

unfoldable pub number_at : List ℕ → ℕ → ℕ → Option (Word ℕ)
number_at line at most = number_of_digits (digits_of (drop at line)) at most

-- a number of 0 to 255
abbrev pub small_at : List ℕ → ℕ → Option (Word ℕ)
small_at line at = number_at line at 255

-- two digits that make a byte; past the end there is none
unfoldable pub byte_at : List ℕ → ℕ → Option (Word ℕ)
byte_at line at = do
  high ← digit_value (byte line at)
  low ← digit_value (byte line (at + 1))
  Some (word (high * 16 + low) (at + 2))

-- the bytes one after the other from a place on, no more than so many
unfoldable pub pairs_from : ℕ → List ℕ → ℕ → List ℕ
pairs_from zero line at = []
pairs_from (suc room) line at = elim (byte_at line at) [
  | Some first ↦ first.value ∷ pairs_from room line first.next
  | None ↦ []
]

-- how many these are, and the place behind them
unfoldable pub pairs_at : ℕ → List ℕ → ℕ → Word ℕ
pairs_at room line at = word (length (pairs_from room line at)) (at + 2 * length (pairs_from room line at))

-- a dash for none, or one at least, no more than there is room for
unfoldable pub bytes_at : ℕ → List ℕ → ℕ → Option (Word ℕ)
bytes_at room line at = elim (mark_at line at 45) [
  | Some next ↦ Some (word 0 next)
  | None ↦ (if eqb (pairs_at room line at).value 0 then None else Some (pairs_at room line at))
]

-- the given bytes with those of the word in front
unfoldable pub bytes_in : List ℕ → List ℕ → ℕ → List ℕ
bytes_in given line at = over 0 (pairs_from (length given) line at) given
