-- What is promised of the text: one line for a packet that is accepted; for a refusal six, the first with what is said of the
-- first test that fails; and an example.
-- Assumes nothing.
use mathlib.Core.List.{List, [], ◌∷◌}
use mathlib.Core.Path.{◌≡◌, ◌∙◌, refl, ap}
use Prim.Native.Nat.{ℕ, ◌≤◌, ◌<◌}
use borrow.Author.Tests.{le-leb, lt-leb}
use lib.ListN.{length}
use Rattle.basis.specs.Answer.{refused}
use Rattle.basis.specs.Check.{Rule, broken, clear, verdict}
use Rattle.explain.specs.Why.{reason_for, reason_of, why_of}
use Rattle.read_closing.specs.Closing.{closing_checks}
use Rattle.read_packet.specs.Packet.{packet_checks}
use Rattle.text.specs.Answers.{answer_line}
use Rattle.text.specs.Ascii.{ascii}
use Rattle.text.specs.Digits.{decimal_text, hex_text}
use Rattle.text.specs.Lines.{lines_text}
use Rattle.text.specs.Whole.{most_input}
use Rattle.text_why.specs.Explained.{refusal_lines, why_lines, why_text}
use Rattle.text_values.specs.Runs.{run_text, runs_of, scanned}
use Rattle.text_why.proofs.Explains.{byte_lines, pair_lines, size_lines}
use Rattle.values.specs.Rate.{from_id}
use Rattle.basis.specs.declared.test.Test.{Test}
use Rattle.basis.specs.declared.test.Test.TheVariants.{Byte, Pair, Size}

-- the reason is made of the first rule that is broken
pub reason_is : (p : List ℕ) (rule : Rule) → verdict (packet_checks p) ≡ broken rule
    → (why_of p).reason ≡ reason_for p rule.at.test rule.at.place (refused rule.refusal).first
unfolding why_of
reason_is p rule fails = ap (reason_of p) fails

refused_lines : (p : List ℕ) (rule : Rule) (test : Test) → rule.at.test ≡ test → verdict (packet_checks p) ≡ broken rule
    → why_lines p (why_of p) ≡ refusal_lines p (why_of p) test
refused_lines p rule (Size test) e fails = size_lines p (why_of p) _ (rw e at (reason_is p rule fails))
refused_lines p rule (Pair test) e fails = pair_lines p (why_of p) _ (rw e at (reason_is p rule fails))
refused_lines p rule (Byte test) e fails = byte_lines p (why_of p) _ (rw e at (reason_is p rule fails))

module _ (p : List ℕ) (short : length p ≤ most_input) where
  lines_text_lem : why_text p ≡ lines_text (why_lines p (why_of p))
  unfolding why_text
  lines_text_lem = rw (le-leb (length p) most_input short)

  pub accepted_text : verdict (packet_checks p) ≡ clear → why_text p ≡ ascii "accepted\n"
  unfolding why_lines why_of
  accepted_text kept = lines_text_lem ∙ rw kept

  pub refused_text : (rule : Rule) → verdict (packet_checks p) ≡ broken rule
      → why_text p ≡ lines_text (refusal_lines p (why_of p) rule.at.test)
  refused_text rule fails = lines_text_lem ∙ ap lines_text (refused_lines p rule rule.at.test refl fails)

pub too_long : (input : List ℕ) → most_input < length input → why_text input ≡ ascii "input too long\n"
unfolding why_text
too_long input h = rw (lt-leb (length input) most_input h)

-- P2 of docs/RULES.md: the shortest packet with another checksum byte
pub bad_checksum : why_text (0x96 ∷ 0x69 ∷ 0x0B ∷ 0x3F ∷ 0x01 ∷ 0x00 ∷ 0x00 ∷ 0x74 ∷ 0x00 ∷ 0x00 ∷ 0x43 ∷ [])
    ≡ lines_text
    (ascii "refused: the checksum byte is not the one that the packet's bytes give"
    ∷ ascii "rule 9"
    ∷ ascii "answer 5"
    ∷ ascii "place 10"
    ∷ ascii "found 43"
    ∷ ascii "allowed 42"
    ∷ [])
unfolding why_text why_lines why_of packet_checks from_id closing_checks answer_line runs_of scanned run_text hex_text decimal_text
bad_checksum = refl
