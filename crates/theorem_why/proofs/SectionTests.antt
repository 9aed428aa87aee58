-- What holds of the test that is failed first: where others stand in front they are kept; and what is said of each of a
-- section's tests, S1 to S8 and E1 to E4, holds of the one that a section fails.
-- Assumes nothing.
use mathlib.Core.Bool.{Bool, true, false, cond, not}
use mathlib.Core.List.{List, ◌∷◌, ◌++◌}
use mathlib.Core.Path.{◌≡◌, ◌∙◌, sym, refl}
use Prim.Native.Nat.{ℕ, zero, suc, ◌+◌}
use native.Mathlib.Omega.{arith}
use Rattle.basis.proofs.Holds.{Holds, both, fixed, held, none, where_moved}
use Rattle.basis.proofs.Verdicts.{and_then, verdict_append}
use Rattle.basis.specs.declared.refusal.Refusal.TheVariants.{InvalidFixedBits, InvalidServiceNumber}
use Rattle.basis.specs.Bytes.{byte}
use Rattle.basis.specs.Check.{Check, Rule, Verdict, broken, check_at, clear, moved, verdict}
use Rattle.basis.specs.Mask.{all_clear, all_set, x3e, x3f, x80}
use Rattle.basis.specs.declared.test.ByteTest.TheVariants.{
  EntryEnd,
  EntryFlags,
  HeaderFixed,
  HeaderForm,
  HeaderNumber,
  KindField,
  KindFixed,
  KindNumber,
  SectionFixed,
  SectionId,
}
use Rattle.basis.specs.declared.test.SizeTest.TheVariants.{SectionHead, SectionSize}
use Rattle.basis.specs.declared.test.Test.{Test}
use Rattle.basis.specs.declared.test.Test.TheVariants.{Byte, Size}
use Rattle.values.specs.Layout.{section_entry_size}
use Rattle.service_entry.specs.Entry.{entry_checks}
use Rattle.service_entries.specs.Entries.{checks_at, count_of, entry_list_checks, section_checks, six_behind}

-- what is said of each of them: those of an entry with its header byte, and those in front of the entries
pub record OfEntry (good : Test → Type 0) : Type 0 where
  pub header : good (Byte HeaderFixed)
  pub form : good (Byte HeaderForm)
  pub kind : good (Byte KindFixed)
  pub number : good (Byte KindNumber)
  pub field : good (Byte KindField)
  pub flags : good (Byte EntryFlags)
  pub end : good (Byte EntryEnd)
  pub named : good (Byte HeaderNumber)

pub record OfSection (good : Test → Type 0) : Type 0 where
  pub head : good (Size SectionHead)
  pub id : good (Byte SectionId)
  pub bits : good (Byte SectionFixed)
  pub size : good (Size SectionSize)
  pub entry : OfEntry good

-- of a list of checks: the test that is failed first
abbrev pub OfTest : (Test → Type 0) → List Check → Type 0
OfTest good cs = Holds (λ (rule : Rule). good rule.at.test) cs

-- tests in front of the failed one, and other than it, are kept
pub others_kept : (rule : Rule) (test : Test) → rule.at.test ≡ test → (xs ys : List Check)
    → OfTest (λ (other : Test). other ≡ test → ⊥) xs → verdict (xs ++ ys) ≡ broken rule → verdict xs ≡ clear
others_kept rule test is xs ys others h = by (verdict xs) others.it (sym (verdict_append xs ys) ∙ h)
  where
    same : (own : Rule) → broken own ≡ broken rule → own.at.test ≡ test
    same own e = cc

    by : (v : Verdict) → held (λ (own : Rule). own.at.test ≡ test → ⊥) v → and_then v (verdict ys) ≡ broken rule → v ≡ clear
    by clear other e = refl
    by (broken own) other e = absurd (other (same own e))

-- 0 is not 1, which two tests that differ would make of it if they were one
pub clash : ◌≡◌ {A = ℕ} 0 1 → ⊥
clash e = omega arith

-- a part has its tests wherever it stands
pub part_test : (good : Test → Type 0) (from : ℕ) (cs : List Check) → OfTest good cs → OfTest good (moved from cs)
part_test good from cs a = where_moved from cs (λ rule h. h) a

module _ (good : Test → Type 0) (of : OfEntry good) where
  kind_test : (digital kept kept' : Bool) {cs : List Check} → OfTest good cs
      → OfTest good
      (cond digital (check_at 3 (Byte KindNumber) kept InvalidServiceNumber)
      (check_at 3 (Byte KindField) kept' InvalidFixedBits)
      ∷ cs)
  kind_test true kept kept' later = fixed of.number later
  kind_test false kept kept' later = fixed of.field later

  entry_test : (e : List ℕ) → OfTest good (entry_checks e)
  entry_test e =
      fixed of.kind
      (kind_test (all_set x80 (byte e 3)) (not (all_clear x3f (byte e 3))) (all_set x3e (byte e 3))
      (fixed of.flags (fixed of.end none)))

  at_test : (d : List ℕ) (at : ℕ) → OfTest good (checks_at d at)
  at_test d at =
      let six : List Check = entry_checks (six_behind d at) in
      fixed of.header
      (fixed of.form (both (moved 1 six) _ (part_test good 1 six (entry_test (six_behind d at))) (fixed of.named none)))

  pub entries_test : (d : List ℕ) (at n : ℕ) → OfTest good (entry_list_checks d at n)
  entries_test d at zero = none
  entries_test d at (suc n) =
      both (moved at (checks_at d at)) (entry_list_checks d (at + section_entry_size) n)
      (part_test good at (checks_at d at) (at_test d at))
      (entries_test d (at + section_entry_size) n)

pub section_test : (good : Test → Type 0) → OfSection good → (d : List ℕ) → OfTest good (section_checks d)
unfolding section_checks
section_test good of d =
    fixed of.head
    (fixed of.id (fixed of.bits (fixed of.size (entries_test good of.entry d 2 (count_of d)))))
