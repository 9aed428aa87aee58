-- The reason is true: where a packet fails a test, the rule that the test belongs to is broken by it, and every rule before
-- that is kept; and an accepted packet keeps every rule.
-- Assumes nothing.
use mathlib.Core.List.{List}
use mathlib.Core.Path.{◌≡◌, ◌∙◌, sym, refl, ap}
use Prim.Native.Nat.{ℕ, zero, suc, ◌+◌, ◌<◌}
use native.Mathlib.Nat.{zero-add}
use native.Mathlib.Omega.{arith}
use lib.Dec.{eqb}
use lib.ListN.{length}
use Rattle.basis.proofs.Holds.{both, fixed, none, unless_found, where_there}
use Rattle.basis.specs.Bytes.{byte}
use Rattle.basis.specs.Check.{Rule, broken, clear, moved, verdict}
use Rattle.basis.specs.declared.test.Test.{Test}
use Rattle.values.specs.Layout.{footer_id}
use Rattle.service_entries.specs.Entries.{section_checks}
use Rattle.read_header.specs.Header.{flags_in, sequence_in}
use Rattle.read_time_code.specs.TimeCode.{time_code_checks}
use Rattle.read_captions.specs.Captions.{captions_checks}
use Rattle.read_services.specs.Services.{services_checks, services_part}
use Rattle.read_closing.specs.Closing.{footer_checks, future_checks, future_length}
use Rattle.read_packet.specs.Packet.{captions_at, closing_at, footer_at, packet_checks, services_at, time_code_at}
use Rattle.values.specs.declared.flags.Flags.{Flags}
use Rattle.explain_tests.specs.Tests.{rule_of}
use Rattle.theorem_why.specs.Rules.{RuleBroken, RuleKept, rules_by_number}
use Rattle.theorem_why.proofs.RulesJoined.{FirstIn, Numbered, each_clear, first_list, no_more, rules_joined, then}
use Rattle.theorem_why.proofs.SectionTests.{OfSection, OfTest, section_test, part_test}

-- tests of one rule, part by part
abbrev InRule : ℕ → Test → Type 0
InRule r test = rule_of test ≡ r

time_rule : (p : List ℕ) (i : ℕ) → OfTest (InRule 5) (time_code_checks p i)
time_rule p i = fixed refl (fixed refl (fixed refl (fixed refl (fixed refl none))))

captions_rule : (p : List ℕ) (i : ℕ) → OfTest (InRule 6) (captions_checks p i)
captions_rule p i = fixed refl (fixed refl (fixed refl (fixed refl none)))

section_rule : OfSection (InRule 7)
section_rule =
    record {
      head = refl;
      id = refl;
      bits = refl;
      size = refl;
      entry =
          record {
            header = refl;
            form = refl;
            kind = refl;
            number = refl;
            field = refl;
            flags = refl;
            end = refl;
            named = refl;
          };
    }

services_rule : (p : List ℕ) (f : Flags) (i : ℕ) → OfTest (InRule 7) (services_checks p f i)
services_rule p f i =
    let own : List ℕ = services_part p i in
    fixed refl
    (fixed refl
    (fixed refl
    (both (moved i (section_checks own)) _
    (part_test (InRule 7) i (section_checks own) (section_test (InRule 7) section_rule own))
    (fixed refl none))))

future_rule : (turns : ℕ) (p : List ℕ) (i : ℕ) → OfTest (InRule 8) (future_checks turns p i)
future_rule zero p i = none
future_rule (suc turns) p i =
    unless_found (eqb (byte p i) footer_id)
    (fixed refl (fixed refl (fixed refl (future_rule turns p (i + 2 + future_length p i)))))

footer_rule : (p : List ℕ) (sequence i : ℕ) → OfTest (InRule 9) (footer_checks p sequence i)
footer_rule p sequence i = fixed refl (fixed refl (fixed refl none))

abbrev rule_number : Rule → ℕ
rule_number rule = rule_of rule.at.test

-- The law: of each rule, the check that is broken first is one of that rule's tests.
pub numbered : (p : List ℕ) → Numbered rule_number 0 (rules_by_number p)
numbered p =
    then none
    (then none
    (then (fixed refl (fixed refl (fixed refl none)))
    (then (fixed refl none)
    (then none
    (then (where_there (flags_in p).time_code (time_rule p time_code_at))
    (then (where_there (flags_in p).cc_data (captions_rule p (captions_at p)))
    (then (where_there (flags_in p).svc_info (services_rule p (flags_in p) (services_at p)))
    (then (fixed refl (future_rule (length p) p (closing_at p)))
    (then (footer_rule p (sequence_in p) (footer_at p)) no_more)))))))))

module _ (p : List ℕ) (rule : Rule) (refused : verdict (packet_checks p) ≡ broken rule) where
  first : FirstIn rule_number 0 (rules_by_number p) rule
  first = first_list rule_number rule 0 (rules_by_number p) (numbered p) (sym (ap verdict (rules_joined p)) ∙ refused)

  own : first.turn ≡ rule_number rule
  own = sym (first.its ∙ zero-add first.turn)

  pub rule_broken : RuleBroken p (rule_of rule.at.test) rule
  rule_broken = rw own at first.here

  pub rules_kept : (r : ℕ) → r < rule_of rule.at.test → RuleKept p r
  rules_kept r low = first.before r (omega (arith, low, own))

pub all_kept : (p : List ℕ) → verdict (packet_checks p) ≡ clear → (r : ℕ) → RuleKept p r
all_kept p accepted r = each_clear (rules_by_number p) (sym (ap verdict (rules_joined p)) ∙ accepted) r
