-- What is promised of the reason that a desk is told.
use Rattle.std.specs.Prelude.{Bool, true, false, ◌&&◌, List, [], ◌∷◌, ◌≡◌, ℕ, ◌+◌, ◌-◌, ◌≤◌, ◌<◌, eqb, ltb, length, set}
use Rattle.basis.specs.Answer.{refused}
use Rattle.basis.specs.declared.refusal.Refusal.TheVariants.{LengthMismatch}
use Rattle.basis.specs.Bytes.{byte}
use Rattle.basis.specs.Check.{Rule, broken, clear, verdict}
use Rattle.basis.specs.Mask.{under, xe0}
use Rattle.basis.specs.declared.test.ByteTest.{ByteTest}
use Rattle.basis.specs.declared.test.ByteTest.TheVariants.{Checksum, SectionId, ServicesFlags}
use Rattle.basis.specs.declared.test.PairTest.{PairTest}
use Rattle.basis.specs.declared.test.SizeTest.{SizeTest}
use Rattle.basis.specs.declared.test.SizeTest.TheVariants.{SectionHead, SectionSize}
use Rattle.basis.specs.declared.test.Test.TheVariants.{Byte, Pair, Size}
use Rattle.values.specs.Flags.{flags_of}
use Rattle.values.specs.Layout.{caption_room, footer_size}
use Rattle.service_list.specs.Section.{list_of}
use Rattle.read_services.specs.Services.{same_flags, services_part}
use Rattle.read_closing.specs.Closing.{checksum_of}
use Rattle.read_packet.specs.Packet.{footer_at, packet_checks, services_at}
use Rattle.reader.specs.Reader.{read}
use Rattle.reader.specs.declared.parser.CDPParser.{CDPParser}
use Rattle.explain_tests.specs.Tests.{all_ask, asks, byte_row, flags_wanted, pair_row, rule_of, takes}
use Rattle.explain.specs.Why.{reason_for, reason_rule, why_of}
use Rattle.explain.specs.declared.why.Reason.{Reason}
use Rattle.explain.specs.declared.why.Reason.TheVariants.{Accepted, OfByte, OfPair, OfSize}
use Rattle.text.specs.Ascii.{ascii}
use Rattle.text.specs.Digits.{hex_text}
use Rattle.text.specs.Lines.{lines_text}
use Rattle.text.specs.Whole.{most_input}
use Rattle.text_why.specs.Explained.{refusal_lines, why_most_text, why_text}
use Rattle.text_values.specs.Values.{allowed_text, found_text, size_text, two_bytes}
use Rattle.text_values.specs.Runs.{Apart, among, runs_of, runs_text}
use Rattle.theorem_why.specs.AsTable.{AsTable, EachByte, Every, pair_asks, size_asks}
use Rattle.theorem_why.specs.Rules.{RuleBroken, RuleKept, one_by_one, rules_in_order}

abbrev pub names_nothing : Reason → Bool
names_nothing Accepted = true
names_nothing (OfSize failed) = false
names_nothing (OfPair failed) = false
names_nothing (OfByte failed) = false

-- of every packet
pub record OfPacket (p : List ℕ) : Type 0 where
  -- reader and explainer agree, whatever the reader's state is, with 95 bytes lent or more
  pub same_answer : (s : CDPParser) (room : ℕ) → caption_room ≤ room → (why_of p).answer ≡ (read s p room).answer
  pub same_place : (s : CDPParser) (room : ℕ) → caption_room ≤ room → (why_of p).place ≡ (read s p room).place
  -- nothing is named exactly where the packet is accepted
  pub nothing_named : names_nothing (why_of p).reason ≡ eqb (why_of p).answer.number 0
  -- the packet's checks are those of the rules, one rule after the other; where it is accepted each rule is kept
  pub rules_joined : packet_checks p ≡ one_by_one (rules_in_order p)
  pub all_kept : verdict (packet_checks p) ≡ clear → (r : ℕ) → RuleKept p r
  -- each check is its test of the table, made of the packet's bytes at the check's place
  pub every_tabled : Every (AsTable p) (packet_checks p)
  -- byte 4: the values that are asked for are those of which 7.4 is kept, with 80, 40 and 20 as they are
  pub flags_made : (v : ℕ)
      → asks ServicesFlags (flags_wanted p) v
      ≡ (eqb (under xe0 v) (under xe0 (byte p 4))
      && same_flags (list_of (services_part p (services_at p))) (flags_of v))
  -- the text: of an accepted packet one line, of an input that is too long another, and never more than the program's buffer
  pub accepted_text : length p ≤ most_input → verdict (packet_checks p) ≡ clear → why_text p ≡ ascii "accepted\n"
  pub too_long : most_input < length p → why_text p ≡ ascii "input too long\n"
  pub text_most : length (why_text p) ≤ why_most_text

-- of one that is refused, by the rule that it breaks first
pub record OfRefused (p : List ℕ) (rule : Rule) : Type 0 where
  -- that rule's test is named, with what it takes, and its number told
  pub reason_named :
      (why_of p).reason ≡ reason_for p rule.at.test rule.at.place (refused rule.refusal).first
  pub rule_told : reason_rule (why_of p).reason ≡ rule_of rule.at.test
  pub place_told : (why_of p).place ≡ rule.at.place
  -- the reason is true: the rule is broken by its own checks, first by this test, and each rule before it is kept
  pub rule_broken : RuleBroken p (rule_of rule.at.test) rule
  pub rules_kept : (r : ℕ) → r < rule_of rule.at.test → RuleKept p r
  -- no packet is refused by S1, S2 or S4
  pub never_head : rule.at.test ≡ Size SectionHead → ⊥
  pub never_id : rule.at.test ≡ Byte SectionId → ⊥
  pub never_size : rule.at.test ≡ Size SectionSize → ⊥
  -- the test fails of what was found: a size, which answer and place have too; two bytes; one byte
  pub size_fails : (test : SizeTest) → rule.at.test ≡ Size test
      → size_asks test (refused rule.refusal).first (length p) ≡ false
  pub size_answers : (test : SizeTest) → rule.at.test ≡ Size test
      → rule.refusal ≡ LengthMismatch (refused rule.refusal).first (length p)
  pub pair_fails : (test : PairTest) → rule.at.test ≡ Pair test → EachByte p
      → pair_asks p rule.at.place ((pair_row test).first p) ((pair_row test).second p) ≡ false
  pub byte_fails : (test : ByteTest) → rule.at.test ≡ Byte test
      → asks test ((byte_row test).says p rule.at.place) (byte p rule.at.place) ≡ false
  -- and that is what is printed: bytes of the packet, at the place
  pub pair_inside : (test : PairTest) → rule.at.test ≡ Pair test → rule.at.place + 1 < length p
  pub pair_found : (test : PairTest) → rule.at.test ≡ Pair test
      → found_text p (why_of p).place (why_of p).reason
      ≡ two_bytes (byte p rule.at.place) (byte p (rule.at.place + 1))
  pub byte_inside : (test : ByteTest) → rule.at.test ≡ Byte test → rule.at.place < length p
  pub byte_found : (test : ByteTest) → rule.at.test ≡ Byte test
      → found_text p (why_of p).place (why_of p).reason ≡ hex_text (byte p rule.at.place)
  -- what is allowed: the size that is asked for, the two bytes, the runs of what the test takes
  pub size_told : (test : SizeTest) → rule.at.test ≡ Size test
      → allowed_text (why_of p).reason ≡ size_text (record { test = test; bytes = (refused rule.refusal).first })
  pub pair_told : (test : PairTest) → rule.at.test ≡ Pair test
      → allowed_text (why_of p).reason ≡ two_bytes ((pair_row test).first p) ((pair_row test).second p)
  pub values_told : (test : ByteTest) → rule.at.test ≡ Byte test
      → allowed_text (why_of p).reason ≡ runs_text (runs_of (takes test ((byte_row test).says p rule.at.place)))
  -- answer 9: it is 7.4, and whichever of its values stands at byte 4 instead, rules 2 to 7 are kept
  pub flags_fail : (refused rule.refusal).number ≡ 9 → rule.at.test ≡ Byte ServicesFlags
  pub flags_put : (refused rule.refusal).number ≡ 9 → (v : ℕ) → takes ServicesFlags (flags_wanted p) v ≡ true
      → (r : ℕ) → r ≤ 7 → RuleKept (set p 4 v) r
  -- answer 5: it is 9.3, and the checksum of rule 9 is printed; where the footer is last, the packet with it is accepted
  pub checksum_fails : (refused rule.refusal).number ≡ 5 → rule.at.test ≡ Byte Checksum
  pub checksum_told : (refused rule.refusal).number ≡ 5 → allowed_text (why_of p).reason ≡ hex_text (checksum_of p)
  pub checksum_put : (refused rule.refusal).number ≡ 5 → footer_at p + footer_size ≡ length p
      → (why_of (set p (length p - 1) (checksum_of p))).reason ≡ Accepted
  -- the text: six lines, the first of them with what is said of the test
  pub refused_text : length p ≤ most_input
      → why_text p ≡ lines_text (refusal_lines p (why_of p) rule.at.test)

pub record Reasons : Type 0 where
  pub of_packet : (p : List ℕ) → OfPacket p
  pub of_refused : (p : List ℕ) (rule : Rule) → verdict (packet_checks p) ≡ broken rule → OfRefused p rule
  -- the one law of the values, over all tests: a number is printed exactly where it is a byte's value of which the test, and
  -- the others of its byte, are kept
  pub values_right : (test : ByteTest) (said v : ℕ)
      → among v (runs_of (takes test said)) ≡ (ltb v 256 && (all_ask (byte_row test).others said v && asks test said v))
  -- and the runs ascend, and no two touch
  pub values_apart : (test : ByteTest) (said : ℕ) → Apart 0 (runs_of (takes test said))
  -- P2 as it is printed
  pub bad_checksum : why_text (0x96 ∷ 0x69 ∷ 0x0B ∷ 0x3F ∷ 0x01 ∷ 0x00 ∷ 0x00 ∷ 0x74 ∷ 0x00 ∷ 0x00 ∷ 0x43 ∷ [])
      ≡ lines_text
      (ascii "refused: the checksum byte is not the one that the packet's bytes give"
      ∷ ascii "rule 9"
      ∷ ascii "answer 5"
      ∷ ascii "place 10"
      ∷ ascii "found 43"
      ∷ ascii "allowed 42"
      ∷ [])
