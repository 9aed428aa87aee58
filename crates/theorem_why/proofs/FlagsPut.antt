-- A packet that is refused for the flags of its byte 4: with any value there that the reason takes, it keeps rules 2 to 7.
-- Assumes nothing.
use mathlib.Core.Bool.{Bool, true, false, ◌&&◌}
use mathlib.Core.List.{List, [], ◌∷◌}
use mathlib.Core.Path.{◌≡◌, ◌∙◌, sym, refl, ap, ap₂}
use Prim.Native.Nat.{ℕ, ◌+◌, ◌*◌, ◌/◌, ◌%◌, ◌≤◌, ◌<◌}
use native.Mathlib.Omega.{arith}
use borrow.Author.Tests.{eqb-true, leb-true}
use lib.Dec.{eqb}
use lib.ListN.{length, length-set, set}
use lib.Seq.{get_or-set_other, get_or-set_same}
use Rattle.basis.proofs.Bools.{and_left, and_right}
use Rattle.basis.proofs.Holds.{fixed}
use Rattle.basis.proofs.Verdicts.{and_then, kept_at_lem, verdict_append}
use Rattle.basis.specs.Bytes.{byte}
use Rattle.basis.specs.Check.{Check, Rule, broken, clear, verdict, when}
use Rattle.basis.specs.Mask.{under, xe0}
use Rattle.basis.specs.declared.test.ByteTest.TheVariants.{ServicesFlags}
use Rattle.basis.specs.declared.test.Test.{Test}
use Rattle.basis.specs.declared.test.Test.TheVariants.{Byte}
use Rattle.values.specs.Flags.{flags_of}
use Rattle.values.specs.Layout.{least_size}
use Rattle.service_entries.specs.Entries.{section_checks}
use Rattle.service_list.specs.Section.{list_of}
use Rattle.read_header.specs.Header.{flags_in, packet_frame_checks}
use Rattle.read_services.specs.Services.{flags_check, same_flags, services_checks, services_part, services_size}
use Rattle.read_packet.specs.Packet.{closing_at, packet_checks, services_at}
use Rattle.theorem_altered.proofs.Outside.{Same}
use Rattle.values.specs.declared.flags.Flags.{Flags}
use Rattle.explain_tests.specs.Tests.{flags_wanted, rule_of, takes}
use Rattle.theorem_why.specs.Rules.{RuleKept}
use Rattle.theorem_why.proofs.FlagsMade.{flags_made, low_three}
use Rattle.theorem_why.proofs.ReasonTrue.{rule_broken, rules_kept}
use Rattle.theorem_why.proofs.SameRules.{
  front_same,
  one_more,
  own_bytes,
  own_same,
  services_at_lem,
  services_front,
  to_six_same,
}
use Rattle.theorem_why.proofs.SectionTests.{OfSection, OfTest, clash, others_kept, part_test, section_test}

-- every test of rule 7 in front of 7.4 is another
abbrev Other : Test → Type 0
Other test = test ≡ Byte ServicesFlags → ⊥

section_other : OfSection Other
section_other =
    record {
      head = λ e. clash (cc);
      id = λ e. clash (cc);
      bits = λ e. clash (cc);
      size = λ e. clash (cc);
      entry =
          record {
            header = λ e. clash (cc);
            form = λ e. clash (cc);
            kind = λ e. clash (cc);
            number = λ e. clash (cc);
            field = λ e. clash (cc);
            flags = λ e. clash (cc);
            end = λ e. clash (cc);
            named = λ e. clash (cc);
          };
    }

front_other : (p : List ℕ) (i : ℕ) → OfTest Other (services_front p i)
front_other p i =
    let own : List ℕ = services_part p i in
    fixed (λ e. clash (cc))
    (fixed (λ e. clash (cc))
    (fixed (λ e. clash (cc)) (part_test Other i (section_checks own) (section_test Other section_other own))))

-- the three upper bits, one by one
upper : (v b : ℕ) → v / 32 % 8 ≡ b / 32 % 8
    → (v / 128 % 2 ≡ b / 128 % 2) × ((v / 64 % 2 ≡ b / 64 % 2) × (v / 32 % 2 ≡ b / 32 % 2))
upper v b h =
    apart (v / 128 % 2) (v / 64 % 2) (v / 32 % 2) (b / 128 % 2) (b / 64 % 2) (b / 32 % 2)
    (omega arith) (omega arith) (omega arith) (omega arith) (omega arith) (omega arith)
    (sym (low_three (v / 32) (v / 64) (v / 128) (omega arith) (omega arith))
    ∙ h
    ∙ low_three (b / 32) (b / 64) (b / 128) (omega arith) (omega arith))
  where
    apart : (x y z x' y' z' : ℕ) → x < 2 → y < 2 → z < 2 → x' < 2 → y' < 2 → z' < 2
        → x * 4 + (y * 2 + z) ≡ x' * 4 + (y' * 2 + z') → (x ≡ x') × ((y ≡ y') × (z ≡ z'))
    apart x y z x' y' z' a b c a' b' c' sum = omega arith

module _ (p : List ℕ) (rule : Rule) (refused : verdict (packet_checks p) ≡ broken rule)
    (test : rule.at.test ≡ Byte ServicesFlags) (v : ℕ) (taken : takes ServicesFlags (flags_wanted p) v ≡ true) where
  abbrev q : List ℕ
  q = set p 4 v

  abbrev at : ℕ
  at = services_at p

  size : length q ≡ length p
  size = length-set p 4 v

  before_seven : (r : ℕ) → r < 7 → RuleKept p r
  before_seven r low = rules_kept p rule refused r (omega (arith, low, ap rule_of test))

  long : least_size ≤ length p
  long = leb-true _ _ (kept_at_lem 0 (packet_frame_checks p) (before_seven 2 (omega arith)))

  -- what the value has: the three upper bits of byte 4, and the section's flags
  both_asked : (eqb (under xe0 v) (under xe0 (byte p 4))
      && same_flags (list_of (services_part p at)) (flags_of v))
      ≡ true
  both_asked = sym (flags_made p v) ∙ taken

  bits : (v / 128 % 2 ≡ byte p 4 / 128 % 2) × ((v / 64 % 2 ≡ byte p 4 / 64 % 2) × (v / 32 % 2 ≡ byte p 4 / 32 % 2))
  bits = upper v (byte p 4) (eqb-true _ _ (and_left _ _ both_asked))

  agree : same_flags (list_of (services_part p at)) (flags_of v) ≡ true
  agree = and_right (eqb (under xe0 v) (under xe0 (byte p 4))) _ both_asked

  -- the packet with it
  put_in : flags_in q ≡ flags_of v
  put_in = ap flags_of (get_or-set_same p 4 v 0 (omega (arith, long)))

  first : Same p q 0 4
  first i low high = get_or-set_other p 4 i v 0 (λ e. omega (arith, high, e))

  rest : Same p q 5 (closing_at p)
  rest i low high = get_or-set_other p 4 i v 0 (λ e. omega (arith, low, e))

  timed : (flags_in q).time_code ≡ (flags_in p).time_code
  timed = ap (λ (f : Flags). f.time_code) put_in ∙ ap (λ (n : ℕ). eqb n 1) bits.0

  captioned : (flags_in q).cc_data ≡ (flags_in p).cc_data
  captioned = ap (λ (f : Flags). f.cc_data) put_in ∙ ap (λ (n : ℕ). eqb n 1) bits.1.0

  serviced : (flags_in q).svc_info ≡ (flags_in p).svc_info
  serviced = ap (λ (f : Flags). f.svc_info) put_in ∙ ap (λ (n : ℕ). eqb n 1) bits.1.1

  -- rule 7: there is a section, all in front of 7.4 is kept, and the new flags agree
  seven : verdict (when (flags_in p).svc_info (services_checks p (flags_in p) at)) ≡ broken rule
  seven = rw (ap rule_of test) at (rule_broken p rule refused)

  there : (present : Bool) (cs : List Check) → verdict (when present cs) ≡ broken rule → present ≡ true
  there true cs h = refl
  there false cs h = absurd (clash (cc))

  on : (flags_in p).svc_info ≡ true
  on = there (flags_in p).svc_info (services_checks p (flags_in p) at) seven

  front_kept : verdict (services_front p at) ≡ clear
  front_kept =
      others_kept rule (Byte ServicesFlags) test (services_front p at) (flags_check p (flags_in p) at ∷ []) (front_other p at)
      (ap (λ (b : Bool). verdict (when b (services_checks p (flags_in p) at))) (sym on) ∙ seven)

  own : Same p q at (at + services_size p at)
  own = own_bytes p q size first rest timed captioned serviced on

  agree_too : same_flags (list_of (services_part q at)) (flags_in q) ≡ true
  agree_too =
      ap₂ (λ (d : List ℕ) (f : Flags). same_flags (list_of d) f) (own_same p q size at own) put_in ∙ agree

  services_kept : RuleKept q 7
  services_kept =
      ap₂ (λ (b : Bool) (i : ℕ). verdict (when b (services_checks q (flags_in q) i))) (serviced ∙ on)
      (services_at_lem p q size first rest timed captioned serviced)
      ∙ verdict_append (services_front q at) (flags_check q (flags_in q) at ∷ [])
      ∙ ap₂ and_then (ap verdict (front_same p q size at own) ∙ front_kept) (rw agree_too)

  pub flags_put : (r : ℕ) → r ≤ 7 → RuleKept (set p 4 v) r
  flags_put =
      one_more (RuleKept q) 6
      (λ (r : ℕ) most.
      ap verdict (to_six_same p q size first rest timed captioned serviced r most) ∙ before_seven r (omega (arith, most)))
      services_kept
