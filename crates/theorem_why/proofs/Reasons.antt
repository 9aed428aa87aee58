-- What is promised of the reason that a desk is told.
-- Assumes nothing.
use mathlib.Core.Bool.{Bool, true, false, cond, ◌&&◌, true≢false}
use mathlib.Core.List.{List, [], ◌∷◌}
use mathlib.Core.Path.{◌≡◌, ◌∙◌, sym, refl, ap}
use Prim.Native.Nat.{ℕ, zero, suc, ◌+◌, ◌≤◌, ◌<◌}
use native.Mathlib.Omega.{arith}
use borrow.Author.Tests.{eq-eqb, eqb-false, eqb-true, le-leb, leb-true, ltb-true, ne_eqb}
use lib.Dec.{eqb, leb, ltb}
use lib.ListN.{length}
use Rattle.basis.proofs.Bools.{and_right}
use Rattle.basis.proofs.Holds.{Holds, also, fixed, none}
use Rattle.basis.proofs.Verdicts.{refused_not_done}
use Rattle.basis.specs.Answer.{refused}
use Rattle.basis.specs.Check.{Rule, Verdict, answer, broken, clear, place_of, verdict}
use Rattle.basis.specs.declared.test.ByteTest.{ByteTest}
use Rattle.basis.specs.declared.test.ByteTest.TheVariants.{Checksum, ServicesFlags}
use Rattle.basis.specs.declared.test.PairTest.{PairTest}
use Rattle.basis.specs.declared.test.PairTest.TheVariants.{FooterSequence, Magic}
use Rattle.basis.specs.declared.test.Test.{Test}
use Rattle.basis.specs.declared.test.Test.TheVariants.{Byte, Pair, Size}
use Rattle.values.specs.Layout.{caption_room}
use Rattle.read_header.specs.Header.{packet_frame_checks, sequence_in}
use Rattle.read_closing.specs.Closing.{checksum_of, footer_checks}
use Rattle.read_packet.proofs.Answers.{packet_inside}
use Rattle.read_packet.specs.Packet.{captions_length, footer_at, packet_checks}
use Rattle.reader.specs.Reader.{read, read_checks}
use Rattle.reader.specs.declared.parser.CDPParser.{CDPParser}
use Rattle.explain_tests.specs.Tests.{rule_of, takes}
use Rattle.explain.specs.Why.{reason_for, reason_of, reason_rule, why_of}
use Rattle.explain.specs.declared.why.Reason.TheVariants.{Accepted}
use Rattle.explain_find.proofs.TestsFound.{test_found}
use Rattle.explain_find.specs.Code.{test_from}
use Rattle.text.specs.Digits.{hex_text}
use Rattle.text_values.proofs.RunsTaken.{runs_apart, runs_taken}
use Rattle.text_values.specs.Values.{allowed_text, found_text}
use Rattle.text_values.specs.Runs.{Run, run_text, runs_of, runs_so_far, runs_text, scanned}
use Rattle.theorem_why.proofs.ChecksumPut.{checksum_put}
use Rattle.theorem_why.proofs.EveryTabled.{every_tabled}
use Rattle.theorem_why.proofs.FailedTest.{byte_fails, pair_fails, size_answers, size_fails}
use Rattle.theorem_why.proofs.FlagsMade.{flags_made}
use Rattle.theorem_why.proofs.FlagsPut.{flags_put}
use Rattle.theorem_why.proofs.NeverFailed.{never_head, never_id, never_size}
use Rattle.theorem_why.proofs.Promises.{accepted_text, bad_checksum, reason_is, refused_text, too_long}
use Rattle.theorem_why.proofs.ReasonTrue.{all_kept, rule_broken, rules_kept}
use Rattle.theorem_why.proofs.RulesJoined.{rules_joined}
use Rattle.text_why.proofs.WhyMost.{why_most}
use Rattle.theorem_why.specs.Rules.{RuleBroken, rule_checks}
use Rattle.theorem_why.specs.Reasons.{OfRefused, Reasons, names_nothing}

-- what is told of a verdict
told_nothing : (p : List ℕ) (v : Verdict) (count : ℕ) → names_nothing (reason_of p v) ≡ eqb (answer v count).number 0
told_nothing p clear count = refl
told_nothing p (broken rule) count = named rule.at.test ∙ sym (refused_not_done rule.refusal)
  where
    named : (test : Test) → names_nothing (reason_for p test rule.at.place (refused rule.refusal).first) ≡ false
    named (Size test) = refl
    named (Pair test) = refl
    named (Byte test) = refl

rule_of_lem : (p : List ℕ) (test : Test) (place size : ℕ) → reason_rule (reason_for p test place size) ≡ rule_of test
rule_of_lem p (Size test) place size = refl
rule_of_lem p (Pair test) place size = refl
rule_of_lem p (Byte test) place size = refl

-- a reader that is lent enough gives what the rules on the packet give
module _ (p : List ℕ) (room : ℕ) (enough : caption_room ≤ room) where
  as_packet : verdict (read_checks p room) ≡ verdict (packet_checks p)
  as_packet = rw (le-leb caption_room room enough)

  same_answer : (s : CDPParser) → (why_of p).answer ≡ (read s p room).answer
  unfolding why_of read
  same_answer s = ap (λ (v : Verdict). answer v (captions_length p)) (sym as_packet)

  same_place : (s : CDPParser) → (why_of p).place ≡ (read s p room).place
  unfolding why_of read
  same_place s = ap place_of (sym as_packet)

nothing_named : (p : List ℕ) → names_nothing (why_of p).reason ≡ eqb (why_of p).answer.number 0
unfolding why_of
nothing_named p = told_nothing p (verdict (packet_checks p)) (captions_length p)

-- one value is one run
module _ (c : ℕ) where
  abbrev only : ℕ → Bool
  only v = eqb v c

  none_yet : (n : ℕ) → n ≤ c → scanned only n ≡ scanned only 0
  unfolding scanned
  none_yet zero h = refl
  none_yet (suc n) h = rw (ne_eqb n c (λ e. omega (arith, h, e)), none_yet n (omega (arith, h)))

  abbrev one : List Run
  one = record { low = c; high = c } ∷ []

  step : (n : ℕ) (here : Bool) → eqb n c ≡ here → (c < n → runs_so_far (scanned only n) ≡ one) → c < suc n
      → runs_so_far (scanned only (suc n)) ≡ one
  unfolding scanned
  step n true e later h =
      let same : n ≡ c = eqb-true n c e in
      rw (e, none_yet n (omega (arith, same))) (ap (λ (v : ℕ). record { low = v; high = v } ∷ []) same)
  step n false e later h =
      let other : n ≡ c → ⊥ = eqb-false n c e in
      rw e (later (omega (arith, other, h)))

  last : (n : ℕ) → c < n → runs_so_far (scanned only n) ≡ one
  last zero h = absurd (omega (arith, h))
  last (suc n) h = step n (eqb n c) refl (last n) h

  alone_told : c < 256 → runs_text (runs_of only) ≡ hex_text c
  unfolding runs_of run_text
  alone_told h = ap runs_text (last 256 h) ∙ rw (eq-eqb c c refl)

checksum_byte : (p : List ℕ) → checksum_of p < 256
checksum_byte p = omega arith

accepted_reason : (p : List ℕ) → verdict (packet_checks p) ≡ clear → (why_of p).reason ≡ Accepted
unfolding why_of
accepted_reason p kept = ap (reason_of p) kept

-- a test of a byte is answered by no size, so that its place is one of the packet's bytes
abbrev of_size : Test → Bool
of_size (Size test) = true
of_size (Pair test) = false
of_size (Byte test) = false

no_size : (p : List ℕ) (place number : ℕ) (test : ByteTest) (one : Bool) → eqb number 1 ≡ one
    → test_from p number place ≡ Byte test
    → cond one (true && eqb place (length p)) (leb number 9 && ltb place (length p)) ≡ true → place < length p
unfolding test_from
no_size p place number test true e found h = absurd (true≢false (ap of_size (rw e at found)))
no_size p place number test false e found h =
    ltb-true place (length p) (and_right (leb number 9) (ltb place (length p)) h)

-- two bytes that are tested together are both there
abbrev PairThere : List ℕ → ℕ → Test → Type 0
PairThere p place (Size test) = Unit
PairThere p place (Pair test) = place + 1 < length p
PairThere p place (Byte test) = Unit

frame_there : (p : List ℕ) → Holds (λ (rule : Rule). PairThere p rule.at.place rule.at.test) (packet_frame_checks p)
frame_there p =
    also (λ _. tt) (λ k. fixed (omega (arith, leb-true 11 (length p) k)) (fixed tt none))

footer_there : (p : List ℕ) (sequence i : ℕ)
    → Holds (λ (rule : Rule). PairThere p rule.at.place rule.at.test) (footer_checks p sequence i)
footer_there p sequence i =
    also (λ _. tt) (λ k. fixed (omega (arith, leb-true (i + 4) (length p) k)) (fixed tt none))

two_there : (p : List ℕ) (place : ℕ) (of : Test) (test : PairTest) → of ≡ Pair test → PairThere p place of
    → place + 1 < length p
two_there p place of test e h = rw e at h

-- what is told of a packet that is refused, by the rule that it breaks first
module _ (p : List ℕ) (rule : Rule) (fails : verdict (packet_checks p) ≡ broken rule) where
  place_told : (why_of p).place ≡ rule.at.place
  unfolding why_of
  place_told = ap place_of fails

  rule_told : reason_rule (why_of p).reason ≡ rule_of rule.at.test
  rule_told =
      ap reason_rule (reason_is p rule fails) ∙ rule_of_lem p rule.at.test rule.at.place (refused rule.refusal).first

  -- of a test by its kind
  named_as : (test : Test) → rule.at.test ≡ test
      → (why_of p).reason ≡ reason_for p test rule.at.place (refused rule.refusal).first
  named_as test e =
      reason_is p rule fails ∙ ap (λ (t : Test). reason_for p t rule.at.place (refused rule.refusal).first) e

  found_as : (test : Test) → rule.at.test ≡ test
      → found_text p (why_of p).place (why_of p).reason
      ≡ found_text p rule.at.place (reason_for p test rule.at.place (refused rule.refusal).first)
  found_as test e = rw (place_told, named_as test e)

  -- the test that the answer leaves is the one that fails
  found_test : test_from p (refused rule.refusal).number rule.at.place ≡ rule.at.test
  found_test = rw fails at (test_found p).it

  five : (refused rule.refusal).number ≡ 5 → rule.at.test ≡ Byte Checksum
  unfolding test_from
  five e = sym (rw e at found_test)

  nine : (refused rule.refusal).number ≡ 9 → rule.at.test ≡ Byte ServicesFlags
  unfolding test_from
  nine e = sym (rw e at found_test)

  -- where it looks at bytes, these are the packet's
  byte_inside : (test : ByteTest) → rule.at.test ≡ Byte test → rule.at.place < length p
  byte_inside test e =
      let number : ℕ = (refused rule.refusal).number in
      no_size p rule.at.place number test (eqb number 1) refl (found_test ∙ e) (rw fails at (packet_inside p).it)

  own : (test : PairTest) → rule.at.test ≡ Pair test → RuleBroken p (rule_of (Pair test)) rule
  own test e = sym (ap (λ (t : Test). verdict (rule_checks p (rule_of t))) e) ∙ rule_broken p rule fails

  pair_inside : (test : PairTest) → rule.at.test ≡ Pair test → rule.at.place + 1 < length p
  pair_inside Magic e =
      two_there p rule.at.place rule.at.test Magic e (rw (own Magic e) at (frame_there p).it)
  pair_inside FooterSequence e =
      two_there p rule.at.place rule.at.test FooterSequence e
      (rw (own FooterSequence e) at (footer_there p (sequence_in p) (footer_at p)).it)

  pub refused_promise : OfRefused p rule
  refused_promise =
      record {
        reason_named = reason_is p rule fails;
        rule_told = rule_told;
        place_told = place_told;
        rule_broken = rule_broken p rule fails;
        rules_kept = rules_kept p rule fails;
        never_head = never_head p rule fails;
        never_id = never_id p rule fails;
        never_size = never_size p rule fails;
        size_fails = size_fails p rule fails;
        size_answers = size_answers p rule fails;
        pair_fails = pair_fails p rule fails;
        byte_fails = byte_fails p rule fails;
        pair_inside = pair_inside;
        pair_found = λ test e. found_as (Pair test) e;
        byte_inside = byte_inside;
        byte_found = λ test e. found_as (Byte test) e;
        size_told = λ test e. ap allowed_text (named_as (Size test) e);
        pair_told = λ test e. ap allowed_text (named_as (Pair test) e);
        values_told = λ test e. ap allowed_text (named_as (Byte test) e);
        flags_fail = nine;
        flags_put = λ e v taken. flags_put p rule fails (nine e) v taken;
        checksum_fails = five;
        checksum_told = λ e.
            ap allowed_text (named_as (Byte Checksum) (five e)) ∙ alone_told (checksum_of p) (checksum_byte p);
        checksum_put = λ e ends. accepted_reason _ (checksum_put p rule fails (five e) ends);
        refused_text = λ short. refused_text p short rule fails;
      }

-- The theorem.
pub reasons : Reasons
reasons =
    record {
      of_packet = λ p.
          record {
            same_answer = λ s room enough. same_answer p room enough s;
            same_place = λ s room enough. same_place p room enough s;
            nothing_named = nothing_named p;
            rules_joined = rules_joined p;
            all_kept = all_kept p;
            every_tabled = every_tabled p;
            flags_made = flags_made p;
            accepted_text = accepted_text p;
            too_long = too_long p;
            text_most = why_most p;
          };
      of_refused = refused_promise;
      values_right = λ test said v. runs_taken (takes test said) v;
      values_apart = λ test said. runs_apart (takes test said);
      bad_checksum = bad_checksum;
    }
