-- The test that a packet fails first: the packet's byte, its two bytes or its size, at the place that is named, is not what
-- the table asks for.
-- Assumes nothing.
use mathlib.Core.Bool.{false}
use mathlib.Core.List.{List}
use mathlib.Core.Path.{◌≡◌, ◌∙◌, sym, refl, ap, subst}
use Prim.Native.Nat.{ℕ}
use lib.ListN.{length}
use Rattle.basis.specs.Answer.{refused}
use Rattle.basis.specs.declared.refusal.Refusal.TheVariants.{LengthMismatch}
use Rattle.basis.specs.Bytes.{byte}
use Rattle.basis.specs.Check.{Rule, broken, verdict}
use Rattle.basis.specs.declared.test.ByteTest.{ByteTest}
use Rattle.basis.specs.declared.test.PairTest.{PairTest}
use Rattle.basis.specs.declared.test.SizeTest.{SizeTest}
use Rattle.basis.specs.declared.test.SizeTest.TheVariants.{
  CaptionRoom,
  CaptionsHead,
  CaptionsWhole,
  ClosingHead,
  FooterWhole,
  FutureNext,
  FutureWhole,
  PacketLeast,
  PacketSize,
  SectionHead,
  SectionSize,
  ServicesHead,
  ServicesWhole,
  TimeWhole,
}
use Rattle.basis.specs.declared.test.Test.{Test}
use Rattle.basis.specs.declared.test.Test.TheVariants.{Byte, Pair, Size}
use Rattle.read_packet.specs.Packet.{packet_checks}
use Rattle.explain_tests.specs.Tests.{asks, byte_row, pair_row}
use Rattle.theorem_why.specs.AsTable.{AsTable, EachByte, SizeTested, Tabled, measured_by, pair_asks, size_asks}
use Rattle.theorem_why.proofs.EveryCheck.{FirstBroken, first_broken}
use Rattle.theorem_why.proofs.EveryTabled.{every_tabled}
use Rattle.theorem_why.proofs.NeverFailed.{never_head, never_size}

module _ (p : List ℕ) (rule : Rule) (refusal : verdict (packet_checks p) ≡ broken rule) where
  failed : FirstBroken (AsTable p) rule
  failed = first_broken rule (every_tabled p) refusal

  abbrev place : ℕ
  place = rule.at.place

  -- as the check is, with the test and the place of the rule
  tabled : (test : Test) → rule.at.test ≡ test → Tabled p test failed.check
  tabled test is =
      subst (λ (t : Test). Tabled p t failed.check) (ap (λ (r : Rule). r.at.test) failed.its ∙ is) failed.is

  pub byte_fails : (test : ByteTest) → rule.at.test ≡ Byte test
      → asks test ((byte_row test).says p place) (byte p place) ≡ false
  byte_fails test is =
      ap (λ (r : Rule). asks test ((byte_row test).says p r.at.place) (byte p r.at.place)) (sym failed.its)
      ∙ sym (tabled (Byte test) is)
      ∙ failed.fails

  pub pair_fails : (test : PairTest) → rule.at.test ≡ Pair test → EachByte p
      → pair_asks p place ((pair_row test).first p) ((pair_row test).second p) ≡ false
  pair_fails test is bytes =
      ap (λ (r : Rule). pair_asks p r.at.place ((pair_row test).first p) ((pair_row test).second p)) (sym failed.its)
      ∙ sym (tabled (Pair test) is bytes)
      ∙ failed.fails

  -- the size that is met is the packet's
  packet_measured : (test : SizeTest) → rule.at.test ≡ Size test → measured_by test p ≡ p
  packet_measured CaptionRoom is = refl
  packet_measured PacketLeast is = refl
  packet_measured PacketSize is = refl
  packet_measured TimeWhole is = refl
  packet_measured CaptionsHead is = refl
  packet_measured CaptionsWhole is = refl
  packet_measured ServicesHead is = refl
  packet_measured ServicesWhole is = refl
  packet_measured SectionHead is = absurd (never_head p rule refusal is)
  packet_measured SectionSize is = absurd (never_size p rule refusal is)
  packet_measured ClosingHead is = refl
  packet_measured FutureWhole is = refl
  packet_measured FutureNext is = refl
  packet_measured FooterWhole is = refl

  module _ (test : SizeTest) (is : rule.at.test ≡ Size test) where
    sized : SizeTested test (length p) failed.check
    sized = rw (packet_measured test is) at (tabled (Size test) is)

    pub size_answers : rule.refusal ≡ LengthMismatch (refused rule.refusal).first (length p)
    size_answers = rw failed.its at sized.answers

    pub size_fails : size_asks test (refused rule.refusal).first (length p) ≡ false
    size_fails = rw failed.its at (sym sized.asks ∙ failed.fails)
