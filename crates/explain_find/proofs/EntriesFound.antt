-- The entries of a service section: the test that an answer and its place leave, of each entry where it stands in the packet.
-- Assumes nothing.
use mathlib.Core.Bool.{Bool, true, false, cond, not}
use mathlib.Core.List.{List, ◌∷◌}
use mathlib.Core.Path.{◌≡◌, ◌∙◌, sym, refl, ap}
use Prim.Native.Nat.{ℕ, zero, suc, ◌+◌, ◌-◌, ◌*◌, ◌%◌, ◌≤◌, ◌<◌}
use native.Mathlib.Omega.{arith}
use borrow.Author.Tests.{le-ltb}
use Rattle.basis.proofs.Holds.{Holds, also, both, fixed, none, where_moved}
use Rattle.basis.proofs.Places.{byte_of_part}
use Rattle.basis.specs.Bytes.{byte}
use Rattle.basis.specs.Check.{Check, check_at, moved}
use Rattle.basis.specs.Mask.{all_clear, all_set, x3e, x3f, x40, x80}
use Rattle.basis.specs.declared.refusal.Refusal.TheVariants.{InvalidFixedBits, InvalidServiceNumber}
use Rattle.basis.specs.declared.test.ByteTest.{ByteTest}
use Rattle.basis.specs.declared.test.ByteTest.TheVariants.{EntryEnd, EntryFlags, HeaderFixed, HeaderForm, KindField, KindFixed, KindNumber}
use Rattle.basis.specs.declared.test.Test.TheVariants.{Byte}
use Rattle.values.specs.Layout.{section_entry_size}
use Rattle.service_entry.specs.Entry.{entry_checks}
use Rattle.service_entries.specs.Entries.{checks_at, entry_list_checks, six_behind}
use Rattle.read_services.specs.Services.{services_part, services_size}
use Rattle.read_packet.specs.Packet.{captions_at, services_at}
use Rattle.explain_find.specs.Code.{bits_test, entry_test, test_from}
use Rattle.explain_find.proofs.Leaves.{FoundAt, of_bits, of_kind, of_number}

-- an entry's header byte and its byte 3, by the bit that is tested first; and the bytes behind
header_fixed : (b : ℕ) → all_set x80 b ≡ false → entry_test 0 b ≡ HeaderFixed
unfolding entry_test
header_fixed b h = rw h

header_form : (b : ℕ) → all_set x80 b ≡ true → entry_test 0 b ≡ HeaderForm
unfolding entry_test
header_form b h = rw h

kind_fixed : (b : ℕ) → all_set x40 b ≡ false → entry_test 4 b ≡ KindFixed
unfolding entry_test
kind_fixed b h = rw h

kind_field : (b : ℕ) → all_set x40 b ≡ true → entry_test 4 b ≡ KindField
unfolding entry_test
kind_field b h = rw h

flags_there : (b : ℕ) → entry_test 5 b ≡ EntryFlags
unfolding entry_test
flags_there b = refl

end_there : (b : ℕ) → entry_test 6 b ≡ EntryEnd
unfolding entry_test
end_there b = refl

module _ (p : List ℕ) where
  -- E2, of a digital service or of a field
  kind_found : (there : ℕ → ℕ) (digital kept kept' : Bool) {cs : List Check} → test_from p 4 (there 3) ≡ Byte KindField
      → Holds (FoundAt p there) cs
      → Holds (FoundAt p there)
      (cond digital (check_at 3 (Byte KindNumber) kept InvalidServiceNumber)
      (check_at 3 (Byte KindField) kept' InvalidFixedBits)
      ∷ cs)
  kind_found there true kept kept' field later = fixed (of_kind p (there 3)) later
  kind_found there false kept kept' field later = fixed field later

  -- an entry's seven bytes, those of the section and so the packet's
  module _ (at k : ℕ) (nth : at ≡ 2 + 7 * k) (whole : at + 7 ≤ services_size p (services_at p)) where
    abbrev d : List ℕ
    d = services_part p (services_at p)

    in_entry : (o : ℕ) → o < 7
        → test_from p 4 (services_at p + (at + o)) ≡ Byte (entry_test o (byte p (services_at p + (at + o))))
    unfolding bits_test
    in_entry o few =
        let i : ℕ = services_at p in
        let place : ℕ = i + (at + o) in
        let left : (place - i - 2) % 7 ≡ o = omega (arith, nth, few) in
        let so : bits_test p place ≡ entry_test o (byte p place) =
        simp (
          le-ltb place (captions_at p) (omega arith),
          le-ltb place i (omega arith),
          le-ltb place (i + 2) (omega (arith, nth)),
          left,
        ) in
        of_bits p place ∙ ap Byte so

    packet_byte : (o : ℕ) → o < 7 → byte d (at + o) ≡ byte p (services_at p + (at + o))
    packet_byte o few =
        byte_of_part p (services_at p) (services_size p (services_at p)) (at + o) (omega (arith, few, whole))

    -- its header byte and its byte 3, by a bit of each
    by_bit : (o : ℕ) (few : o < 7) (bit : ℕ → Bool) (on : Bool) (test : ByteTest)
        → ((b : ℕ) → bit b ≡ on → entry_test o b ≡ test) → bit (byte d (at + o)) ≡ on
        → test_from p 4 (services_at p + (at + o)) ≡ Byte test
    by_bit o few bit on test law h =
        in_entry o few
        ∙ ap Byte (law (byte p (services_at p + (at + o))) (sym (ap bit (packet_byte o few)) ∙ h))

    six_found : Holds (FoundAt p (λ o. services_at p + (at + (1 + o)))) (entry_checks (six_behind d at))
    six_found =
        also (λ k. by_bit 4 (omega arith) (all_set x40) false KindFixed kind_fixed k)
        (λ k. kind_found (λ o. services_at p + (at + (1 + o))) (all_set x80 (byte d (at + 4)))
        (not (all_clear x3f (byte d (at + 4)))) (all_set x3e (byte d (at + 4)))
        (by_bit 4 (omega arith) (all_set x40) true KindField kind_field k)
        (fixed (in_entry 5 (omega arith) ∙ ap Byte (flags_there (byte p (services_at p + (at + 5)))))
        (fixed (in_entry 6 (omega arith) ∙ ap Byte (end_there (byte p (services_at p + (at + 6))))) none)))

    first_byte : byte d at ≡ byte d (at + 0)
    first_byte = ap (byte d) (omega arith)

    entry_found : Holds (FoundAt p (λ o. services_at p + (at + o))) (checks_at d at)
    entry_found =
        also (λ k. by_bit 0 (omega arith) (all_set x80) false HeaderFixed header_fixed
        (sym (ap (all_set x80) first_byte) ∙ k))
        (λ k. fixed (by_bit 0 (omega arith) (all_set x80) true HeaderForm header_form
        (sym (ap (all_set x80) first_byte) ∙ k))
        (both (moved 1 (entry_checks (six_behind d at))) _
        (where_moved 1 (entry_checks (six_behind d at)) (λ rule h. h) six_found)
        (fixed (of_number p (services_at p + (at + 0))) none)))

  pub entries_found : (n at k : ℕ) → at ≡ 2 + 7 * k → at + 7 * n ≤ services_size p (services_at p)
      → Holds (FoundAt p (λ o. services_at p + o)) (entry_list_checks (services_part p (services_at p)) at n)
  entries_found zero at k nth whole = none
  entries_found (suc n) at k nth whole =
      let own : List ℕ = services_part p (services_at p) in
      both (moved at (checks_at own at)) (entry_list_checks own (at + section_entry_size) n)
      (where_moved at (checks_at own at) (λ rule h. h) (entry_found at k nth (omega (arith, whole))))
      (entries_found n (at + section_entry_size) (k + 1) (omega (arith, nth)) (omega (arith, whole)))
