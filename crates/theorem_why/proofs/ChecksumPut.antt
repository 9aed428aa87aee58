-- A packet that ends with its footer and is refused for its checksum alone: with the checksum that is named as its last byte
-- it is accepted.
-- Assumes nothing.
use mathlib.Core.Bool.{Bool, true, cond}
use mathlib.Core.List.{List, ◌∷◌}
use mathlib.Core.Path.{◌≡◌, ◌∙◌, sym, refl, ap, ap₂}
use Prim.Native.Nat.{ℕ, ◌+◌, ◌-◌, ◌≤◌, ◌<◌}
use native.Mathlib.Omega.{arith}
use borrow.Author.Tests.{eq-eqb, le-leb}
use lib.Dec.{eqb}
use lib.ListN.{drop, length, length-set, set, take}
use lib.Seq.{get_or-set_other, get_or-set_same, take-set-le}
use Rattle.basis.proofs.Holds.{fixed, none}
use Rattle.basis.proofs.Verdicts.{kept_at_lem}
use Rattle.basis.specs.Bytes.{byte}
use Rattle.basis.specs.Check.{Check, Rule, Verdict, broken, clear, verdict}
use Rattle.basis.specs.declared.test.ByteTest.TheVariants.{Checksum}
use Rattle.basis.specs.declared.test.Test.TheVariants.{Byte}
use Rattle.values.specs.Checksum.{negative, total}
use Rattle.values.specs.Flags.{flags_of}
use Rattle.values.specs.Layout.{footer_size}
use Rattle.values.specs.Sequence.{sequence_of}
use Rattle.read_header.specs.Header.{flags_in, sequence_in}
use Rattle.read_closing.specs.Closing.{checksum_of, footer_checks, footer_from, future_checks, future_sections_checks}
use Rattle.read_packet.specs.Packet.{closing_at, footer_at, packet_checks}
use Rattle.theorem_altered.proofs.Outside.{Same, Walked, further, walked}
use Rattle.values.specs.declared.flags.Flags.{Flags}
use Rattle.explain_tests.specs.Tests.{rule_of}
use Rattle.theorem_why.specs.Rules.{RuleKept, rule_checks, rules_by_number}
use Rattle.theorem_why.proofs.RulesJoined.{all_clear, rules_joined}
use Rattle.theorem_why.proofs.ReasonTrue.{rule_broken, rules_kept}
use Rattle.theorem_why.proofs.SectionTests.{clash, others_kept}
use Rattle.theorem_why.proofs.SameRules.{closing_at_lem, one_more, services_rule_same, to_six_same}

-- three checks that are kept
three_kept : (a b c : Bool) (r s t : Rule) → a ≡ true → b ≡ true → c ≡ true
    → ◌≡◌ {A = Verdict} (cond a (cond b (cond c clear (broken t)) (broken s)) (broken r)) clear
three_kept a b c r s t first second third = rw (first, second, third)

module _ (p : List ℕ) (rule : Rule) (refused : verdict (packet_checks p) ≡ broken rule)
    (test : rule.at.test ≡ Byte Checksum) (ends : footer_at p + footer_size ≡ length p) where
  abbrev last : ℕ
  last = length p - 1

  abbrev q : List ℕ
  q = set p last (checksum_of p)

  size : length q ≡ length p
  size = length-set p last (checksum_of p)

  long : closing_at p + footer_size ≤ length p
  long = omega (arith, ends, further p p refl (length p) (closing_at p))

  -- what is put in
  sum_same : checksum_of q ≡ checksum_of p
  sum_same =
      ap (λ (n : ℕ). negative (total (take (n - 1) q))) size
      ∙ ap (λ (l : List ℕ). negative (total l)) (take-set-le last p last (checksum_of p) (omega arith))

  put_in : byte q last ≡ checksum_of p
  put_in = get_or-set_same p last (checksum_of p) 0 (omega (arith, long))

  as_before : (i : ℕ) → i < last → byte q i ≡ byte p i
  as_before i low = get_or-set_other p last i (checksum_of p) 0 (λ e. omega (arith, low, e))

  first : Same p q 0 4
  first i low high = as_before i (omega (arith, high, long))

  rest : Same p q 5 (closing_at p)
  rest i low high = as_before i (omega (arith, high, long))

  flags_same : flags_in q ≡ flags_in p
  flags_same = ap flags_of (as_before 4 (omega (arith, long)))

  timed : (flags_in q).time_code ≡ (flags_in p).time_code
  timed = ap (λ (f : Flags). f.time_code) flags_same

  captioned : (flags_in q).cc_data ≡ (flags_in p).cc_data
  captioned = ap (λ (f : Flags). f.cc_data) flags_same

  serviced : (flags_in q).svc_info ≡ (flags_in p).svc_info
  serviced = ap (λ (f : Flags). f.svc_info) flags_same

  -- the same sections stand behind, and the footer at the same place
  steps : Walked p q size (length p) (closing_at p)
  steps =
      walked p q size last (length p) (closing_at p) (λ (i : ℕ) low high. as_before i high) (omega (arith, ends))

  closing_same : closing_at q ≡ closing_at p
  closing_same = closing_at_lem p q size first rest timed captioned serviced

  future_same : rule_checks q 8 ≡ rule_checks p 8
  future_same =
      ap (future_sections_checks q) closing_same
      ∙ ap₂ ◌∷◌ (rw size) (ap (λ (n : ℕ). future_checks n q (closing_at p)) size ∙ steps.0)

  footer_same : footer_at q ≡ footer_at p
  footer_same = ap₂ (λ (n i : ℕ). footer_from n q i) size closing_same ∙ steps.1

  to_eight_same : (r : ℕ) → r ≤ 8 → rule_checks q r ≡ rule_checks p r
  to_eight_same =
      let Same : ℕ → Type 0 = λ (r : ℕ). rule_checks q r ≡ rule_checks p r in
      one_more Same 7
      (one_more Same 6 (to_six_same p q size first rest timed captioned serviced)
      (services_rule_same p q size first rest timed captioned serviced flags_same))
      future_same

  -- rule 9: its first two tests are kept, and so they are with the new byte
  rule_nine : verdict (footer_checks p (sequence_in p) (footer_at p)) ≡ broken rule
  rule_nine = rw (ap rule_of test) at (rule_broken p rule refused)

  sequence_kept : eqb (sequence_of (byte p (footer_at p + 1)) (byte p (footer_at p + 2))) (sequence_in p) ≡ true
  sequence_kept =
      let checks : List Check = footer_checks p (sequence_in p) (footer_at p) in
      kept_at_lem 1 (take 2 checks)
      (others_kept rule (Byte Checksum) test (take 2 checks) (drop 2 checks)
      (fixed (λ e. clash (cc)) (fixed (λ e. clash (cc)) none))
      rule_nine)

  sequence_same : eqb (sequence_of (byte q (footer_at p + 1)) (byte q (footer_at p + 2))) (sequence_in q) ≡ true
  sequence_same =
      rw (
        as_before (footer_at p + 1) (omega (arith, ends)),
        as_before (footer_at p + 2) (omega (arith, ends)),
        as_before 5 (omega (arith, long)),
        as_before 6 (omega (arith, long)),
      )
      sequence_kept

  sum_kept : eqb (byte q (footer_at p + 3)) (checksum_of q) ≡ true
  sum_kept =
      let place : footer_at p + 3 ≡ last = omega (arith, ends) in
      eq-eqb _ _ (ap (byte q) place ∙ put_in ∙ sym sum_same)

  footer_kept : RuleKept q 9
  footer_kept =
      let whole : footer_at p + footer_size ≤ length q = omega (arith, ends, size) in
      ap (λ (i : ℕ). verdict (footer_checks q (sequence_in q) i)) footer_same
      ∙ three_kept _ _ _ _ _ _ (le-leb _ _ whole) sequence_same sum_kept

  pub checksum_put : verdict (packet_checks (set p (length p - 1) (checksum_of p))) ≡ clear
  checksum_put =
      ap verdict (rules_joined q)
      ∙ all_clear (rules_by_number q)
      (λ (r : ℕ) low. one_more (RuleKept q) 8
      (λ (k : ℕ) most. ap verdict (to_eight_same k most) ∙ rules_kept p rule refused k (omega (arith, most, ap rule_of test)))
      footer_kept r (omega (arith, low)))
