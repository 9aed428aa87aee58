-- How long the lines of a refusal can be, one by one and together.
-- Assumes nothing.
use mathlib.Core.Bool.{Bool, true, false, cond}
use mathlib.Core.List.{List, [], ◌++◌}
use mathlib.Core.Path.{◌≡◌, refl}
use Prim.Native.Nat.{ℕ, ◌+◌, ◌≤◌}
use native.Mathlib.Omega.{arith}
use lib.Dec.{leb, lit≤}
use lib.ListN.{length, length-append}
use Rattle.basis.specs.Bytes.{byte}
use Rattle.explain_tests.specs.Tests.{size_row, takes}
use Rattle.explain.specs.Why.{reason_rule, why_of}
use Rattle.text.proofs.Decimals.{decimal_most}
use Rattle.text.proofs.Sizes.{answer_most, hex_size}
use Rattle.text.specs.Ascii.{ascii}
use Rattle.text.specs.Lines.{lines_text}
use Rattle.text.specs.Whole.{most_input}
use Rattle.text_words.proofs.WordsMost.{words_most}
use Rattle.text_words.specs.Words.{test_words}
use Rattle.basis.specs.declared.test.Test.{Test}
use Rattle.basis.specs.declared.test.Test.TheVariants.{Byte, Pair, Size}
use Rattle.text_why.specs.Explained.{detail_lines, lines_for, refusal_lines, why_lines, why_most_text, why_text}
use Rattle.text_values.specs.Values.{allowed_text, found_text, size_text, two_bytes, why_most_allowed}
use Rattle.text_values.proofs.RunsTaken.{runs_most}
use Rattle.explain.specs.declared.why.FailedSize.{FailedSize}
use Rattle.explain.specs.declared.why.Reason.{Reason}
use Rattle.explain.specs.declared.why.Reason.TheVariants.{Accepted, OfByte, OfPair, OfSize}
use Rattle.explain.specs.declared.why.Why.{Why}

two_size : (first second : ℕ) → length (two_bytes first second) ≡ 5
two_size first second = simp (length-append, hex_size)

found_most : (p : List ℕ) (place : ℕ) (reason : Reason) → length (found_text p place reason) ≤ 5
found_most p place Accepted = lit≤ tt
found_most p place (OfSize failed) = lit≤ tt
found_most p place (OfPair failed) = omega (arith, two_size (byte p place) (byte p (place + 1)))
found_most p place (OfByte failed) = omega (arith, hex_size (byte p place))

more_most : (exact : Bool) → length (cond exact [] (ascii " or more")) ≤ 8
more_most true = lit≤ tt
more_most false = lit≤ tt

size_most : (failed : FailedSize) → length (size_text failed) ≤ 514
size_most failed = simp length-append (omega (arith, decimal_most failed.bytes, more_most (size_row failed.test).exact))

allowed_most : (reason : Reason) → length (allowed_text reason) ≤ why_most_allowed
allowed_most Accepted = lit≤ tt
allowed_most (OfSize failed) = size_most failed
allowed_most (OfPair failed) = omega (arith, two_size failed.first failed.second)
allowed_most (OfByte failed) = runs_most (takes failed.test failed.said)

details_most : (p : List ℕ) (w : Why) → length (lines_text (detail_lines p w)) ≤ 674
details_most p w =
    simp length-append
    (omega (
      arith,
      decimal_most (reason_rule w.reason),
      answer_most w.answer,
      decimal_most w.place,
      found_most p w.place w.reason,
      allowed_most w.reason,
    ))

refusal_most : (p : List ℕ) (w : Why) (test : Test) → length (lines_text (refusal_lines p w test)) ≤ why_most_text
refusal_most p w test =
    let words : List ℕ = test_words test in
    omega (
      arith,
      details_most p w,
      words_most test,
      length-append words (ascii "\n"),
      length-append (words ++ ascii "\n") (lines_text (detail_lines p w)),
    )

lines_most : (p : List ℕ) (w : Why) (reason : Reason) → length (lines_text (lines_for p w reason)) ≤ why_most_text
lines_most p w Accepted = lit≤ tt
lines_most p w (OfSize failed) = refusal_most p w (Size failed.test)
lines_most p w (OfPair failed) = refusal_most p w (Pair failed.test)
lines_most p w (OfByte failed) = refusal_most p w (Byte failed.test)

input_cases : (p : List ℕ) (short : Bool) → leb (length p) most_input ≡ short → length (why_text p) ≤ why_most_text
unfolding why_text why_lines
input_cases p true e = rw e (lines_most p (why_of p) (why_of p).reason)
input_cases p false e = rw e (lit≤ tt)

-- no input has a longer text than this
pub why_most : (p : List ℕ) → length (why_text p) ≤ why_most_text
why_most p = input_cases p (leb (length p) most_input) refl
