-- Values in digits.
use Rattle.std.specs.Prelude.{Bool, cond, List, [], ◌∷◌, ◌++◌, ℕ, zero, suc, ◌/◌, ◌%◌, ltb}
use Prim.Native.String.{String}
use Rattle.basis.specs.Bytes.{byte}
use Rattle.text.specs.Ascii.{ascii}

-- the digit of a value below 16, in lower case
abbrev pub digit_of : ℕ → ℕ
digit_of value = byte (ascii "0123456789abcdef") value

-- a number in decimal with no zeros in front, the last of so many digits
abbrev pub decimal_in : ℕ → ℕ → List ℕ
decimal_in zero n = []
decimal_in (suc places) n = cond (ltb n 10) (digit_of n ∷ []) (decimal_in places (n / 10) ++ digit_of (n % 10) ∷ [])

-- all of its digits: a number of 64 bits has twenty at most
unfoldable pub decimal_text : ℕ → List ℕ
decimal_text n = decimal_in 20 n

-- the last two digits of a number in decimal
unfoldable pub two_digits : ℕ → List ℕ
two_digits n = digit_of (n / 10 % 10) ∷ digit_of (n % 10) ∷ []

-- a byte in hexadecimal
unfoldable pub hex_text : ℕ → List ℕ
hex_text b = digit_of (b / 16) ∷ digit_of (b % 16) ∷ []

-- 1 where the flag is on, else 0
unfoldable pub flag_text : Bool → List ℕ
flag_text on = cond on (ascii "1") (ascii "0")

-- each of these behind a word that names it
abbrev pub number_after : String → ℕ → List ℕ
number_after name n = ascii name ++ decimal_text n

abbrev pub two_after : String → ℕ → List ℕ
two_after name n = ascii name ++ two_digits n

abbrev pub hex_after : String → ℕ → List ℕ
hex_after name b = ascii name ++ hex_text b

abbrev pub flag_after : String → Bool → List ℕ
flag_after name on = ascii name ++ flag_text on
