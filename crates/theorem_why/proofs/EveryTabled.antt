-- Every check of a packet, of those behind a broken one too, is the test that the table has, made of the packet's bytes.
-- Assumes nothing.
use mathlib.Core.Bool.{Bool, true, false, cond, not, ◌&&◌, ◌||◌}
use mathlib.Core.List.{List, [], ◌++◌}
use mathlib.Core.Path.{◌≡◌, ◌∙◌, sym, refl, ap, subst}
use Prim.Native.Nat.{ℕ, zero, suc, ◌+◌, ◌*◌, ◌≤◌, ◌<◌}
use native.Mathlib.Nat.{add-zero}
use native.Mathlib.Omega.{arith}
use borrow.Author.Tests.{eq-eqb, eqb-true}
use lib.Dec.{eqb, leb}
use lib.ListN.{length}
use Rattle.basis.proofs.Places.{byte_of_part}
use Rattle.basis.specs.declared.refusal.Refusal.TheVariants.{InvalidFixedBits, InvalidServiceNumber, LengthMismatch}
use Rattle.basis.specs.Bytes.{byte}
use Rattle.basis.specs.Check.{Check, check_at, moved, moved_check, size_check}
use Rattle.basis.specs.Mask.{all_clear, all_set, under, x20, x3e, x3f, x40, x80, xc0, xe0}
use Rattle.basis.specs.declared.test.ByteTest.TheVariants.{KindField, KindNumber}
use Rattle.basis.specs.declared.test.SizeTest.{SizeTest}
use Rattle.basis.specs.declared.test.SizeTest.TheVariants.{PacketSize, SectionHead, SectionSize}
use Rattle.basis.specs.declared.test.Test.TheVariants.{Byte, Size}
use Rattle.values.specs.Layout.{footer_id, section_entry_size, section_head_size, section_length, services_id}
use Rattle.values.specs.Sequence.{sequence_of}
use Rattle.service_entries.specs.Entries.{checks_at, count_of, entry_list_checks, frame_checks, named_by, section_checks}
use Rattle.service_list.specs.Section.{list_of}
use Rattle.read_header.specs.Header.{flags_in, header_checks, sequence_in}
use Rattle.read_time_code.specs.TimeCode.{time_code_checks}
use Rattle.read_captions.specs.Captions.{captions_checks}
use Rattle.read_services.proofs.ServicesReads.{count_at}
use Rattle.read_services.specs.Services.{flags_check, same_flags, services_checks, services_part, services_size}
use Rattle.read_closing.specs.Closing.{closing_checks, footer_checks, future_checks, future_checks_at, future_length}
use Rattle.read_packet.specs.Packet.{captions_at, closing_at, packet_checks, services_at, time_code_at}
use Rattle.explain_tests.specs.Tests.{number_wanted, size_row}
use Rattle.theorem_why.specs.AsTable.{AsTable, EachByte, Every, also_of, measured_by, no_check, pair_asks, size_asks}
use Rattle.theorem_why.proofs.EveryCheck.{every_both, every_there}
use Rattle.theorem_why.proofs.FlagsMade.{by_parts, flags_made, same_tests}
use Rattle.theorem_why.proofs.SectionMoved.{entries_there, moved_append}

-- two bytes, as one number and one by one
sequence_digits : (a b c d : ℕ) → a < 256 → b < 256 → c < 256 → d < 256
    → eqb (sequence_of a b) (sequence_of c d) ≡ (eqb a c && eqb b d)
sequence_digits a b c d one two three four =
    by_parts (sequence_of a b) (sequence_of c d) a b c d (λ sum. omega arith) (λ sum. omega arith) (λ high low. omega arith)

turned : (a b : ℕ) → eqb a b ≡ eqb b a
turned a b =
    same_tests (eqb a b) (eqb b a) (λ e. eq-eqb b a (sym (eqb-true a b e))) (λ e. eq-eqb a b (sym (eqb-true b a e)))

module _ (p : List ℕ) where
  abbrev All : List Check → Type 0
  All cs = Every (AsTable p) cs

  -- a test of a size, and one that asks for so many bytes at least
  measured : (test : SizeTest) (place asked size : ℕ) (kept : Bool) → length (measured_by test p) ≡ size
      → kept ≡ size_asks test asked size → AsTable p (check_at place (Size test) kept (LengthMismatch asked size))
  measured test place asked size kept of is =
      record { answers = ap (LengthMismatch asked) (sym of); asks = is ∙ ap (size_asks test asked) (sym of) }

  at_least : (test : SizeTest) (least : ℕ) → measured_by test p ≡ p → (size_row test).exact ≡ false
      → AsTable p (size_check test p least)
  at_least test least of some = measured test (length p) least (length p) (leb least (length p)) (ap length of) (rw some)

  -- a test of one byte, its place counted in two ways
  one_place : (asked : ℕ → Bool) (i j : ℕ) → i ≡ j → asked (byte p i) ≡ asked (byte p j)
  one_place asked i j same = ap (λ (k : ℕ). asked (byte p k)) same

  magic_there : EachByte p → (eqb (byte p 0) 0x96 && eqb (byte p 1) 0x69) ≡ pair_asks p 0 0x96 0x69
  magic_there bytes = refl

  header_tabled : All (header_checks p)
  header_tabled =
      also_of (at_least _ _ refl refl)
      (also_of magic_there
      (also_of (measured PacketSize (length p) (byte p 2) (length p) _ refl refl) (also_of refl no_check)))

  time_tabled : (i : ℕ) → All (time_code_checks p i)
  time_tabled i =
      also_of (at_least _ _ refl refl)
      (also_of refl
      (also_of (one_place (all_set xc0) (i + 1) (i + 1 + 0) (omega arith))
      (also_of (one_place (all_set x80) (i + 2) (i + 1 + 1) (omega arith))
      (also_of (one_place (all_clear x40) (i + 4) (i + 1 + 3) (omega arith)) no_check))))

  captions_tabled : (i : ℕ) → All (captions_checks p i)
  captions_tabled i =
      also_of (at_least _ _ refl refl) (also_of refl (also_of refl (also_of (at_least _ _ refl refl) no_check)))

  -- rules 8 and 9
  future_here : (b : ℕ) → eqb b footer_id ≡ false
      → (leb 0x75 b && leb b 0xEF) ≡ (eqb b footer_id || (leb 0x75 b && leb b 0xEF))
  future_here b other = rw other

  future_turn : (i : ℕ) (cs : List Check) (here : Bool) → eqb (byte p i) footer_id ≡ here → All cs
      → All (cond here [] (future_checks_at p i ++ cs))
  future_turn i cs true e later = no_check
  future_turn i cs false e later =
      also_of (future_here (byte p i) e) (also_of (at_least _ _ refl refl) (also_of (at_least _ _ refl refl) later))

  future_tabled : (turns i : ℕ) → All (future_checks turns p i)
  future_tabled zero i = no_check
  future_tabled (suc turns) i =
      let next : ℕ = i + section_head_size + future_length p i in
      future_turn i (future_checks turns p next) (eqb (byte p i) footer_id) refl (future_tabled turns next)

  pair_there : (i : ℕ) → EachByte p
      → eqb (sequence_of (byte p (i + 1)) (byte p (i + 2))) (sequence_in p) ≡ pair_asks p (i + 1) (byte p 5) (byte p 6)
  pair_there i bytes =
      sequence_digits (byte p (i + 1)) (byte p (i + 2)) (byte p 5) (byte p 6) (bytes (i + 1)) (bytes (i + 2)) (bytes 5)
      (bytes 6)
      ∙ ap (λ (k : ℕ). eqb (byte p (i + 1)) (byte p 5) && eqb (byte p k) (byte p 6)) (omega arith)

  footer_tabled : (i : ℕ) → All (footer_checks p (sequence_in p) i)
  footer_tabled i = also_of (at_least _ _ refl refl) (also_of (pair_there i) (also_of refl no_check))

  closing_tabled : (i : ℕ) → All (closing_checks p (sequence_in p) i)
  unfolding closing_checks
  closing_tabled i = also_of (at_least _ _ refl refl) (every_both (future_tabled (length p) i) (footer_tabled _))

  -- rule 7: an entry with its header byte at a place
  kind_there : (k : ℕ) (digital : Bool) → all_set x80 (byte p (k + 4)) ≡ digital
      → AsTable p
      (moved_check k
      (moved_check 1
      (cond digital (check_at 3 (Byte KindNumber) (not (all_clear x3f (byte p (k + 4)))) InvalidServiceNumber)
      (check_at 3 (Byte KindField) (all_set x3e (byte p (k + 4))) InvalidFixedBits))))
  kind_there k true e = rw e
  kind_there k false e = rw e

  at_tabled : (k : ℕ) → All (moved k (checks_at p k))
  at_tabled k =
      also_of (one_place (all_set x80) k (k + 0) (sym (add-zero k)))
      (also_of (one_place (λ (b : ℕ). not (all_set x40 b) || all_set x20 b) k (k + 0) (sym (add-zero k)))
      (also_of refl
      (also_of (kind_there k (all_set x80 (byte p (k + 4))) refl)
      (also_of refl
      (also_of refl
      (also_of (ap (λ (j : ℕ). eqb (named_by (byte p j)) (number_wanted p j)) (sym (add-zero k))) no_check))))))

  entries_tabled : (k n : ℕ) → All (entry_list_checks p k n)
  entries_tabled k zero = no_check
  entries_tabled k (suc n) = every_both (at_tabled k) (entries_tabled (k + section_entry_size) n)

  -- the section
  abbrev at : ℕ
  at = services_at p

  abbrev own : List ℕ
  own = services_part p at

  own_byte : (k : ℕ) → k < section_head_size → byte own k ≡ byte p (at + k)
  own_byte k few = byte_of_part p at (services_size p at) k (omega (arith, few))

  frame_tabled : All (moved at (frame_checks own))
  frame_tabled =
      also_of (measured SectionHead (at + length own) section_head_size (length own) _ refl refl)
      (also_of (ap (λ (b : ℕ). eqb b services_id) (own_byte 0 (omega arith)))
      (also_of (ap (λ (b : ℕ). all_set x80 b) (own_byte 1 (omega arith)))
      (also_of
      (measured SectionSize (at + length own) (section_length (count_of own)) (length own) _ refl
      (turned (length own) (section_length (count_of own))))
      no_check)))

  own_tabled : All (moved at (entry_list_checks own section_head_size (count_of own)))
  own_tabled =
      let fits : section_head_size + section_entry_size * count_of own ≤ services_size p at =
      omega (arith, ap (λ (n : ℕ). section_entry_size * n) (count_at p at)) in
      subst All (sym (entries_there p at (services_size p at) section_head_size (count_of own) fits))
      (entries_tabled (at + section_head_size) (count_of own))

  section_tabled : All (moved at (section_checks own))
  unfolding section_checks
  section_tabled =
      subst All (sym (moved_append at (frame_checks own) (entry_list_checks own section_head_size (count_of own))))
      (every_both frame_tabled own_tabled)

  flags_there : AsTable p (flags_check p (flags_in p) at)
  flags_there =
      sym (flags_made p (byte p 4)
      ∙ ap (λ (b : Bool). b && same_flags (list_of own) (flags_in p))
      (eq-eqb (under xe0 (byte p 4)) (under xe0 (byte p 4)) refl))

  services_tabled : All (services_checks p (flags_in p) at)
  services_tabled =
      also_of (at_least _ _ refl refl)
      (also_of refl
      (also_of (at_least _ _ refl refl) (every_both section_tabled (also_of flags_there no_check))))

  pub every_tabled : Every (AsTable p) (packet_checks p)
  unfolding packet_checks
  every_tabled =
      every_both header_tabled
      (every_both (every_there (flags_in p).time_code (time_tabled time_code_at))
      (every_both (every_there (flags_in p).cc_data (captions_tabled (captions_at p)))
      (every_both (every_there (flags_in p).svc_info services_tabled) (closing_tabled (closing_at p)))))
