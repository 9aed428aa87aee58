-- Why a packet is refused, as it is printed.
use Rattle.std.specs.Prelude.{cond, List, [], ◌∷◌, ◌++◌, ℕ, leb, length}
use Rattle.basis.specs.declared.test.Test.{Test}
use Rattle.basis.specs.declared.test.Test.TheVariants.{Byte, Pair, Size}
use Rattle.explain.specs.Why.{reason_rule, why_of}
use Rattle.text.specs.Answers.{answer_line}
use Rattle.text.specs.Ascii.{ascii}
use Rattle.text.specs.Digits.{number_after}
use Rattle.text.specs.Lines.{Line, lines_text}
use Rattle.text.specs.Whole.{most_input}
use Rattle.text_words.specs.Words.{refused_line}
use Rattle.text_values.specs.Values.{allowed_text, found_text}
use Rattle.explain.specs.declared.why.Reason.{Reason}
use Rattle.explain.specs.declared.why.Reason.TheVariants.{Accepted, OfByte, OfPair, OfSize}
use Rattle.explain.specs.declared.why.Why.{Why}

-- a refusal: what is said of the test, and five lines below
abbrev pub detail_lines : List ℕ → Why → List Line
detail_lines p w =
    number_after "rule " (reason_rule w.reason)
    ∷ answer_line w.answer
    ∷ number_after "place " w.place
    ∷ (ascii "found " ++ found_text p w.place w.reason)
    ∷ (ascii "allowed " ++ allowed_text w.reason)
    ∷ []

abbrev pub refusal_lines : List ℕ → Why → Test → List Line
refusal_lines p w test = refused_line test ∷ detail_lines p w

-- one line for a packet that is accepted, six for a refusal
abbrev pub lines_for : List ℕ → Why → Reason → List Line
lines_for p w Accepted = ascii "accepted" ∷ []
lines_for p w (OfSize failed) = refusal_lines p w (Size failed.test)
lines_for p w (OfPair failed) = refusal_lines p w (Pair failed.test)
lines_for p w (OfByte failed) = refusal_lines p w (Byte failed.test)

unfoldable pub why_lines : List ℕ → Why → List Line
why_lines p w = lines_for p w w.reason

-- a length that no text exceeds
abbrev pub why_most_text : ℕ
why_most_text = 1024

unfoldable pub why_text : List ℕ → List ℕ
why_text input =
    cond (leb (length input) most_input) (lines_text (why_lines input (why_of input))) (lines_text (ascii "input too long" ∷ []))
