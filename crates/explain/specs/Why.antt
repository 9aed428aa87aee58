-- Why a packet is refused: the first test that it fails, and what that test takes.
use Rattle.std.specs.Prelude.{List, ℕ}
use Rattle.basis.specs.Answer.{refused}
use Rattle.basis.specs.Check.{Verdict, answer, broken, clear, place_of, verdict}
use Rattle.basis.specs.declared.test.PairTest.{PairTest}
use Rattle.basis.specs.declared.test.Test.{Test}
use Rattle.basis.specs.declared.test.Test.TheVariants.{Byte, Pair, Size}
use Rattle.read_packet.specs.Packet.{captions_length, packet_checks}
use Rattle.explain_tests.specs.Tests.{byte_row, pair_row, rule_of}
use Rattle.explain.specs.declared.why.FailedPair.{FailedPair}
use Rattle.explain.specs.declared.why.Reason.{Reason}
use Rattle.explain.specs.declared.why.Reason.TheVariants.{Accepted, OfByte, OfPair, OfSize}
use Rattle.explain.specs.declared.why.Why.{Why}

-- a test of two bytes, with the two
abbrev pub failed_pair : List ℕ → PairTest → FailedPair
failed_pair p test = record { test = test; first = (pair_row test).first p; second = (pair_row test).second p }

-- a test at a place: with the size that it asks for, as the answer has it; with the two bytes; or with what the byte is
-- compared with
abbrev pub reason_for : List ℕ → Test → ℕ → ℕ → Reason
reason_for p (Size test) place size = OfSize (record { test = test; bytes = size })
reason_for p (Pair test) place size = OfPair (failed_pair p test)
reason_for p (Byte test) place size = OfByte (record { test = test; said = (byte_row test).says p place })

-- the number of the rule that makes the test, 0 where nothing is refused
abbrev pub reason_rule : Reason → ℕ
reason_rule Accepted = 0
reason_rule (OfSize failed) = rule_of (Size failed.test)
reason_rule (OfPair failed) = rule_of (Pair failed.test)
reason_rule (OfByte failed) = rule_of (Byte failed.test)

-- nothing is named of a packet that is accepted
abbrev pub reason_of : List ℕ → Verdict → Reason
reason_of p clear = Accepted
reason_of p (broken rule) = reason_for p rule.at.test rule.at.place (refused rule.refusal).first

-- the reader's answer and its place, and the reason
unfoldable pub why_of : List ℕ → Why
why_of p =
    let v = verdict (packet_checks p) in
    record { answer = answer v (captions_length p); place = place_of v; reason = reason_of p v }
