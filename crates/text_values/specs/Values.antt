-- What a test found, and what it takes, as it is printed.
use Rattle.std.specs.Prelude.{cond, List, [], ◌++◌, ℕ, ◌+◌}
use Rattle.basis.specs.Bytes.{byte}
use Rattle.explain_tests.specs.Tests.{size_row, takes}
use Rattle.explain.specs.declared.why.FailedSize.{FailedSize}
use Rattle.explain.specs.declared.why.Reason.{Reason}
use Rattle.explain.specs.declared.why.Reason.TheVariants.{Accepted, OfByte, OfPair, OfSize}
use Rattle.text.specs.Ascii.{ascii}
use Rattle.text.specs.Digits.{hex_after, hex_text, number_after}
use Rattle.text_values.specs.Runs.{runs_of, runs_text}

-- two bytes that are tested together
abbrev pub two_bytes : ℕ → ℕ → List ℕ
two_bytes first second = hex_text first ++ hex_after " " second

-- the packet's bytes that the test looks at: none for a size, the two from a place on, or the one there
abbrev pub found_text : List ℕ → ℕ → Reason → List ℕ
found_text p place Accepted = []
found_text p place (OfSize failed) = ascii "none"
found_text p place (OfPair failed) = two_bytes (byte p place) (byte p (place + 1))
found_text p place (OfByte failed) = hex_text (byte p place)

-- just this size, or this and any above
abbrev pub size_text : FailedSize → List ℕ
size_text failed = number_after "size " failed.bytes ++ cond (size_row failed.test).exact [] (ascii " or more")

-- what the test takes: a size, two bytes, or the values of the one byte
abbrev pub allowed_text : Reason → List ℕ
allowed_text Accepted = []
allowed_text (OfSize failed) = size_text failed
allowed_text (OfPair failed) = two_bytes failed.first failed.second
allowed_text (OfByte failed) = runs_text (runs_of (takes failed.test failed.said))

-- no text of what is allowed is longer
abbrev pub why_most_allowed : ℕ
why_most_allowed = 514
