-- S1, S2 and S4 refuse no packet: behind 7.1 to 7.3 the section has as many bytes as it says, and its id.
-- Assumes nothing.
use mathlib.Core.Bool.{Bool, true, false, false≢true}
use mathlib.Core.List.{List}
use mathlib.Core.Path.{◌≡◌, ◌∙◌, sym, ap}
use Prim.Native.Nat.{ℕ, ◌+◌, ◌≤◌}
use native.Mathlib.Nat.{add-zero}
use native.Mathlib.Omega.{arith}
use borrow.Author.Tests.{eq-eqb, eqb-true, le-leb, leb-true}
use lib.Dec.{eqb, leb}
use lib.ListN.{length}
use Rattle.basis.proofs.Holds.{also, both, fixed, none, where_there}
use Rattle.basis.proofs.Places.{byte_of_part}
use Rattle.basis.specs.Bytes.{byte}
use Rattle.basis.specs.Check.{Rule, broken, moved, verdict}
use Rattle.basis.specs.declared.test.ByteTest.TheVariants.{SectionId}
use Rattle.basis.specs.declared.test.SizeTest.TheVariants.{SectionHead, SectionSize}
use Rattle.basis.specs.declared.test.Test.{Test}
use Rattle.basis.specs.declared.test.Test.TheVariants.{Byte, Size}
use Rattle.values.specs.Layout.{section_head_size, services_id}
use Rattle.service_entries.specs.Entries.{count_of, section_checks}
use Rattle.read_header.specs.Header.{flags_in}
use Rattle.read_services.proofs.ServicesReads.{as_long}
use Rattle.read_services.specs.Services.{services_checks, services_part, services_size}
use Rattle.read_packet.specs.Packet.{packet_checks, services_at}
use Rattle.values.specs.declared.flags.Flags.{Flags}
use Rattle.explain_tests.specs.Tests.{rule_of}
use Rattle.theorem_why.proofs.ReasonTrue.{rule_broken}
use Rattle.theorem_why.proofs.SectionTests.{OfEntry, OfTest, clash, entries_test, part_test}

-- a test that is none of the three
pub record NotFrame (test : Test) : Type 0 where
  pub not_head : test ≡ Size SectionHead → ⊥
  pub not_id : test ≡ Byte SectionId → ⊥
  pub not_size : test ≡ Size SectionSize → ⊥

entry_not : OfEntry NotFrame
entry_not =
    record {
      header = record { not_head = λ e. clash (cc); not_id = λ e. clash (cc); not_size = λ e. clash (cc) };
      form = record { not_head = λ e. clash (cc); not_id = λ e. clash (cc); not_size = λ e. clash (cc) };
      kind = record { not_head = λ e. clash (cc); not_id = λ e. clash (cc); not_size = λ e. clash (cc) };
      number = record { not_head = λ e. clash (cc); not_id = λ e. clash (cc); not_size = λ e. clash (cc) };
      field = record { not_head = λ e. clash (cc); not_id = λ e. clash (cc); not_size = λ e. clash (cc) };
      flags = record { not_head = λ e. clash (cc); not_id = λ e. clash (cc); not_size = λ e. clash (cc) };
      end = record { not_head = λ e. clash (cc); not_id = λ e. clash (cc); not_size = λ e. clash (cc) };
      named = record { not_head = λ e. clash (cc); not_id = λ e. clash (cc); not_size = λ e. clash (cc) };
    }

-- a check that is kept is not broken
kept_stays : {A : Type 0} (t : Bool) → t ≡ true → t ≡ false → A
kept_stays t kept fails = absurd (false≢true (sym fails ∙ kept))

module _ (p : List ℕ) (i : ℕ) (id : byte p i ≡ services_id) (fits : i + services_size p i ≤ length p) where
  abbrev own : List ℕ
  own = services_part p i

  own_id : byte own 0 ≡ services_id
  own_id = byte_of_part p i (services_size p i) 0 (omega arith) ∙ ap (byte p) (add-zero i) ∙ id

  head_there : section_head_size ≤ length own
  head_there = omega (arith, as_long p i fits)

  section_not : OfTest NotFrame (section_checks own)
  unfolding section_checks
  section_not =
      also (λ fails. kept_stays (leb section_head_size (length own)) (le-leb _ _ head_there) fails)
      (λ _. also (λ fails. kept_stays (eqb (byte own 0) services_id) (eq-eqb _ _ own_id) fails)
      (λ _. fixed (record { not_head = λ e. clash (cc); not_id = λ e. clash (cc); not_size = λ e. clash (cc) })
      (also (λ fails. kept_stays (eqb (length own) _) (eq-eqb _ _ (as_long p i fits)) fails)
      (λ _. entries_test NotFrame entry_not own 2 (count_of own)))))

services_not : (p : List ℕ) (f : Flags) (i : ℕ) → OfTest NotFrame (services_checks p f i)
services_not p f i =
    let own : List ℕ = services_part p i in
    fixed (record { not_head = λ e. clash (cc); not_id = λ e. clash (cc); not_size = λ e. clash (cc) })
    (also (λ _. record { not_head = λ e. clash (cc); not_id = λ e. clash (cc); not_size = λ e. clash (cc) })
    (λ id. also (λ _. record { not_head = λ e. clash (cc); not_id = λ e. clash (cc); not_size = λ e. clash (cc) })
    (λ fits. both (moved i (section_checks own)) _
    (part_test NotFrame i (section_checks own) (section_not p i (eqb-true _ _ id) (leb-true _ _ fits)))
    (fixed (record { not_head = λ e. clash (cc); not_id = λ e. clash (cc); not_size = λ e. clash (cc) }) none))))

module _ (p : List ℕ) (rule : Rule) (refused : verdict (packet_checks p) ≡ broken rule) where
  seven : rule_of rule.at.test ≡ 7 → NotFrame rule.at.test
  seven is =
      let seventh = where_there (flags_in p).svc_info (services_not p (flags_in p) (services_at p)) in
      rw (rw is at (rule_broken p rule refused)) at seventh.it

  pub never_head : rule.at.test ≡ Size SectionHead → ⊥
  never_head is = (seven (ap rule_of is)).not_head is

  pub never_id : rule.at.test ≡ Byte SectionId → ⊥
  never_id is = (seven (ap rule_of is)).not_id is

  pub never_size : rule.at.test ≡ Size SectionSize → ⊥
  never_size is = (seven (ap rule_of is)).not_size is
