-- Reading a section takes back what writing made of a list, unless the list names field 2, which reading answers with 7.
-- Assumes nothing.
use mathlib.Core.Path.{◌≡◌, refl, sym, ap, ap₂, ◌∙◌}
use mathlib.Core.Bool.{Bool, true, false, cond, not, ◌||◌}
use mathlib.Core.List.{List, [], ◌∷◌, ◌++◌}
use Prim.Native.Nat.{ℕ, ◌+◌, ◌*◌, ◌≤◌}
use native.Mathlib.Nat.{add-zero}
use native.Mathlib.Omega.{arith}
use lib.Dec.{eqb}
use lib.ListN.{length, take, drop}
use borrow.Author.Tests.{eq-eqb, ne_eqb, le-leb, eqb-true}
use Rattle.basis.proofs.Bools.{and_left, and_right}
use Rattle.basis.proofs.Places.{byte_on, further_on}
use Rattle.basis.proofs.Verdicts.{and_then, moved_clear, moved_verdict, verdict_append, verdict_moved}
use Rattle.basis.specs.declared.refusal.Refusal.TheVariants.{ServiceNumberMismatch}
use Rattle.std.specs.Prelude.{Ok, Err}
use Rattle.basis.specs.Bytes.{byte}
use Rattle.basis.specs.Check.{Check, Verdict, check_at, moved, refused_at, rule_at, verdict, clear, broken}
use Rattle.basis.specs.declared.test.ByteTest.TheVariants.{HeaderNumber}
use Rattle.basis.specs.declared.test.Test.TheVariants.{Byte}
use Rattle.basis.specs.Mask.{flag, under, all_set, x80, x40, x20, x10, x3f, x0f}
use Rattle.values.specs.Layout.{services_id, section_length, section_entry_size}
use Rattle.service_entry.specs.Entry.{entry_checks, entry_of}
use Rattle.service_list.specs.SectionBack.{is_field_two, names_field_two, before_field_two, all_of_three, Ready}
use Rattle.service_entries.specs.Entries.{
  six_behind,
  checks_at,
  entry_list_checks,
  entries_of,
  filled,
  frame_checks,
  section_checks,
  count_of,
}
use Rattle.service_list.specs.Section.{section_read, list_of}
use Rattle.service_entry.specs.Service.{number_of}
use Rattle.service_list.specs.ServiceList.{empty, list, list_shown}
use Rattle.basis.specs.Writing.{Written}
use Rattle.service_entry.specs.EntryWriting.{writable, header_byte, entry_bytes, seven_bytes}
use Rattle.service_entry.specs.Code.{all_writable}
use Rattle.service_entry.specs.EntriesWriting.{entry_list_bytes}
use Rattle.service_list.specs.SectionWriting.{counted, section_byte, section_bytes, section_written}
use Rattle.service_entry.specs.declared.entry.ServiceEntry.{ServiceEntry}
use Rattle.service_list.specs.declared.list.ServiceInfo.{ServiceInfo}
use Rattle.service_entry.specs.declared.service.FieldOrService.{FieldOrService}
use Rattle.service_entry.specs.declared.service.FieldOrService.TheVariants.{Field, Service}
use Rattle.service_entry.proofs.EntriesWrites.{bytes_length}
use Rattle.service_list.proofs.SectionWrites.{counted_length, value_done, written_done}
use Rattle.basis.proofs.Writes.{first_bytes}
use Rattle.service_entry.proofs.EntryBack.{all_set_lem, number_high, service_back, entry_clear, entry_of_back}

-- clear, or 7 where the entries name field 2, at a place
abbrev pub named : Bool → ℕ → Verdict
named two place = cond two (broken (rule_at place (Byte HeaderNumber) ServiceNumberMismatch)) clear

-- the header byte of a number: bit 80 is set, bit 40 is clear, the low six are the number
module _ (n : ℕ) (h : n ≤ 63) where
  header_80 : all_set x80 (0x80 + n) ≡ true
  header_80 = all_set_lem x80 (0x80 + n) (omega arith)

  header_40 : all_set x40 (0x80 + n) ≡ false
  header_40 = ne_eqb (under x40 (0x80 + n)) 1 (λ z. omega arith)

  header_number : under x3f (0x80 + n) ≡ n
  header_number = omega arith

-- so each header byte has its fixed bits, and names the number that S8 asks for, unless it is field 2
header_fixed : (s : FieldOrService) → writable s ≡ true → all_set x80 (header_byte s) ≡ true
header_fixed (Field true) h = refl
header_fixed (Field false) h = refl
header_fixed (Service d) h = header_80 d.service (number_high d h)

header_low : (s : FieldOrService) → writable s ≡ true → all_set x40 (header_byte s) ≡ false
header_low (Field true) h = refl
header_low (Field false) h = refl
header_low (Service d) h = header_40 d.service (number_high d h)

header_named : (s : FieldOrService) → writable s ≡ true
    → eqb (under x3f (header_byte s)) (number_of s) ≡ not (is_field_two s)
header_named (Field true) h = refl
header_named (Field false) h = refl
header_named (Service d) h = eq-eqb _ _ (header_number d.service (number_high d h))

not_two : (two : Bool) → cond (not two) clear (broken (rule_at 0 (Byte HeaderNumber) ServiceNumberMismatch)) ≡ named two 0
not_two true = refl
not_two false = refl

-- where the checks before it are clear, the number named decides
last : (cs : List Check) (kept two : Bool) → verdict cs ≡ clear → kept ≡ not two
    → verdict (cs ++ check_at 0 (Byte HeaderNumber) kept ServiceNumberMismatch ∷ []) ≡ named two 0
last cs kept two h k = verdict_append cs (check_at 0 (Byte HeaderNumber) kept ServiceNumberMismatch ∷ []) ∙ rw (h, k, not_two two)

place_verdict : (d : List ℕ) (at : ℕ) (two : Bool) → all_set x80 (byte d at) ≡ true → all_set x40 (byte d at) ≡ false
    → verdict (entry_checks (six_behind d at)) ≡ clear
    → eqb (under x3f (byte d at)) (number_of (entry_of (six_behind d at)).service) ≡ not two
    → verdict (checks_at d at) ≡ named two 0
place_verdict d at two h80 h40 kept same =
    simp (h80, h40)
    (last (moved 1 (entry_checks (six_behind d at))) _ two
    (verdict_moved 1 (entry_checks (six_behind d at)) ∙ moved_clear 1 _ kept) same)

-- what stands from a place on: its bytes are those of the whole, and what follows is what stands further on
module _ (d : List ℕ) (at : ℕ) (e : ServiceEntry) (rest : List ℕ) (h : drop at d ≡ seven_bytes e ++ rest) where
  on : (j : ℕ) → byte d (at + j) ≡ byte (seven_bytes e ++ rest) j
  on = byte_on d at (seven_bytes e ++ rest) h

  header_on : byte d at ≡ header_byte e.service
  header_on = rw add-zero at (on 0)

  six_on : six_behind d at ≡ entry_bytes e
  six_on = simp (on 1, on 2, on 3, on 4, on 5, on 6)

  rest_on : drop (at + section_entry_size) d ≡ rest
  rest_on = further_on d at (seven_bytes e) rest h section_entry_size refl

  -- reading there: 7 at the header byte for field 2, else clear
  place_back : writable e.service ≡ true → verdict (checks_at d at) ≡ named (is_field_two e.service) 0
  place_back w =
      place_verdict
      d
      at
      (is_field_two e.service)
      (rw header_on (header_fixed e.service w))
      (rw header_on (header_low e.service w))
      (ap (λ (six : List ℕ). verdict (entry_checks six)) six_on ∙ entry_clear e.language e.service w)
      (rw (header_on, ap (λ (six : List ℕ). (entry_of six).service) six_on ∙ service_back e.service w)
      (header_named e.service w))

-- the verdict on entries one after the other, and what they hold
both : (a b : Bool) (j k : ℕ) → and_then (named a j) (named b k) ≡ named (a || b) (cond a j k)
both true b j k = refl
both false b j k = refl

pub named_moved : (from : ℕ) (two : Bool) (place : ℕ) → moved_verdict from (named two place) ≡ named two (from + place)
named_moved from true place = refl
named_moved from false place = refl

further : (two : Bool) (at k : ℕ)
    → cond two (at + 0) (at + section_entry_size + section_entry_size * k) ≡ at + section_entry_size * cond two 0 (1 + k)
further true at k = omega arith
further false at k = omega arith

checks_back : (d : List ℕ) (at : ℕ) (es : List ServiceEntry) → drop at d ≡ entry_list_bytes es → all_writable es ≡ true
    → verdict (entry_list_checks d at (length es)) ≡ named (names_field_two es) (at + section_entry_size * before_field_two es)
unfolding all_writable names_field_two before_field_two
checks_back d at [] h w = refl
checks_back d at (e ∷ es) h w =
    let two : Bool = is_field_two e.service in
    verdict_append (moved at (checks_at d at)) (entry_list_checks d (at + section_entry_size) (length es))
    ∙ ap₂
    and_then
    (verdict_moved at (checks_at d at)
    ∙ ap (moved_verdict at) (place_back d at e (entry_list_bytes es) h (and_left _ _ w))
    ∙ named_moved at two 0)
    (checks_back d (at + section_entry_size) es (rest_on d at e (entry_list_bytes es) h) (and_right (writable e.service) _ w))
    ∙ both two (names_field_two es) (at + 0) (at + section_entry_size + section_entry_size * before_field_two es)
    ∙ ap (named (two || names_field_two es)) (further two at (before_field_two es))

entries_back : (d : List ℕ) (at : ℕ) (es : List ServiceEntry) → drop at d ≡ entry_list_bytes es → all_writable es ≡ true
    → all_of_three es ≡ true → entries_of d at (length es) ≡ es
unfolding all_writable all_of_three
entries_back d at [] h w t = refl
entries_back d at (e ∷ es) h w t =
    let on : drop (at + section_entry_size) d ≡ entry_list_bytes es = rest_on d at e (entry_list_bytes es) h in
    let ws : all_writable es ≡ true = and_right (writable e.service) _ w in
    let ts : all_of_three es ≡ true = and_right (eqb (length e.language) 3) _ t in
    ap₂
    (λ (x : ServiceEntry) (xs : List ServiceEntry). x ∷ xs)
    (ap entry_of (six_on d at e (entry_list_bytes es) h)
    ∙ entry_of_back e (eqb-true _ _ (and_left _ _ t)) (and_left _ _ w))
    (entries_back d (at + section_entry_size) es on ws ts)

-- byte 1: bit 80 is set, each flag is in its bit, and the low four are the count
record Bits (b : ℕ) (start change complete : Bool) (n : ℕ) : Type 0 where
  fixed : under x80 b ≡ 1
  first : under x40 b ≡ flag start 1
  second : under x20 b ≡ flag change 1
  third : under x10 b ≡ flag complete 1
  low : under x0f b ≡ n

bits_back : (start change complete : Bool) (n : ℕ) → n ≤ 15
    → Bits (0x80 + flag start 0x40 + flag change 0x20 + flag complete 0x10 + n) start change complete n
bits_back true true true n h = omega arith
bits_back true true false n h = omega arith
bits_back true false true n h = omega arith
bits_back true false false n h = omega arith
bits_back false true true n h = omega arith
bits_back false true false n h = omega arith
bits_back false false true n h = omega arith
bits_back false false false n h = omega arith

pub bit_back : (b : ℕ) (on : Bool) → b ≡ flag on 1 → eqb b 1 ≡ on
bit_back b true h = rw h
bit_back b false h = rw h

-- S1 to S4 are kept by a first byte 73, a second byte with 80, and seven bytes for each entry that it counts
frame_clear : (header : ℕ) (rest : List ℕ) → all_set x80 header ≡ true → length rest ≡ section_entry_size * under x0f header
    → verdict (frame_checks (services_id ∷ header ∷ rest)) ≡ clear
frame_clear header rest h80 size =
    simp (
      le-leb 2 (length (services_id ∷ header ∷ rest)) (omega arith),
      h80,
      eq-eqb (length (services_id ∷ header ∷ rest)) (section_length (under x0f header)) (omega arith),
    )

-- a list that can be written, read from its section: byte 1, the verdict, and what is held
module _ (l : ServiceInfo) (r : Ready l) where
  one : Bits (section_byte l) l.start l.change l.complete l.count
  one = bits_back l.start l.change l.complete l.count r.count

  fixed_set : all_set x80 (section_byte l) ≡ true
  fixed_set = all_set_lem x80 (section_byte l) one.fixed

  pub count_back : under x0f (section_byte l) ≡ l.count
  count_back = one.low

  entries_count : under x0f (section_byte l) ≡ length (counted l)
  entries_count = count_back ∙ sym (counted_length l)

  entry_bytes_length : length (entry_list_bytes (counted l)) ≡ section_entry_size * under x0f (section_byte l)
  entry_bytes_length = rw entries_count (bytes_length (counted l))

  pub section_verdict : verdict (section_checks (section_bytes l))
      ≡ named (names_field_two (counted l)) (section_length (before_field_two (counted l)))
  unfolding section_checks section_bytes
  section_verdict =
      verdict_append (frame_checks (section_bytes l)) (entry_list_checks (section_bytes l) 2 (count_of (section_bytes l)))
      ∙ ap₂
      and_then
      (frame_clear (section_byte l) (entry_list_bytes (counted l)) fixed_set entry_bytes_length)
      (rw entries_count (checks_back (section_bytes l) 2 (counted l) refl r.numbers))

  -- flags and count are those that were written, whatever the entries are
  pub byte_back : list_of (section_bytes l)
      ≡ list l.start l.change l.complete (filled (entries_of (section_bytes l) 2 (count_of (section_bytes l))))
      l.count
  unfolding list_of section_bytes
  byte_back =
      let start : all_set x40 (section_byte l) ≡ l.start = bit_back _ _ one.first in
      let change : all_set x20 (section_byte l) ≡ l.change = bit_back _ _ one.second in
      let complete : all_set x10 (section_byte l) ≡ l.complete = bit_back _ _ one.third in
      rw (start, change, complete, one.low)

  -- and so are the entries, where every language has its three bytes
  module _ (languages : all_of_three (counted l) ≡ true) where
    entries_same : entries_of (section_bytes l) 2 (count_of (section_bytes l)) ≡ counted l
    unfolding section_bytes
    entries_same = rw entries_count (entries_back (section_bytes l) 2 (counted l) refl r.numbers languages)

    pub list_back_lem : list_of (section_bytes l) ≡ list l.start l.change l.complete (filled (counted l)) l.count
    list_back_lem = byte_back ∙ rw entries_same

-- A list that can be written, and that names no field 2: reading the section that writing makes of it is done,
-- and gives the same flags, count and counted entries, with fillers in the places past the count.
pub section_back : (l : ServiceInfo) → Ready l → all_of_three (counted l) ≡ true → names_field_two (counted l) ≡ false
    → section_read (section_bytes l)
    ≡ Ok (list l.start l.change l.complete (filled (counted l)) l.count)
unfolding section_read
section_back l r languages none = rw (section_verdict l r, none, list_back_lem l r languages)

-- Where the places past the count hold fillers already, that is the list itself.
pub list_same : (l : ServiceInfo) → Ready l → all_of_three (counted l) ≡ true → names_field_two (counted l) ≡ false
    → l.services ≡ filled (counted l) → section_read (section_bytes l) ≡ Ok l
list_same l r languages none rest = section_back l r languages none ∙ rw (← rest)

-- A list that can be written, and that names field 2 anywhere: reading its section is answered 7 at the header byte of the
-- first such entry.
pub field_two_refused : (l : ServiceInfo) → Ready l → names_field_two (counted l) ≡ true
    → section_read (section_bytes l) ≡ Err (refused_at ServiceNumberMismatch (section_length (before_field_two (counted l))))
unfolding section_read
field_two_refused l r some = rw (section_verdict l r, some)

-- What is shown of that is the empty list.
pub field_two_shown : (l : ServiceInfo) → Ready l → names_field_two (counted l) ≡ true
    → list_shown (section_read (section_bytes l)) ≡ empty
field_two_shown l r some = ap list_shown (field_two_refused l r some)

-- The same of what the writer leaves in a buffer, where it answers 0: reading as many first bytes as it answers gives the list
-- back, or 7 where it names field 2. The writer itself has seen to count and numbers.
module _ (l : ServiceInfo) (buffer : List ℕ) (taken : eqb (section_written l buffer).answer.number 0 ≡ true) where
  ready : Ready l
  ready =
      let both = value_done l (written_done l buffer taken).0 in
      record { count = both.0; numbers = both.1 }

  first_written : take (section_written l buffer).answer.first (section_written l buffer).buffer ≡ section_bytes l
  first_written =
      ap (λ (w : Written). take w.answer.first w.buffer) (written_done l buffer taken).1
      ∙ first_bytes (section_bytes l) buffer

  pub written_back : all_of_three (counted l) ≡ true → names_field_two (counted l) ≡ false
      → section_read (take (section_written l buffer).answer.first (section_written l buffer).buffer)
      ≡ Ok (list l.start l.change l.complete (filled (counted l)) l.count)
  written_back languages h = rw first_written (section_back l ready languages h)

  pub written_field_two : names_field_two (counted l) ≡ true
      → section_read (take (section_written l buffer).answer.first (section_written l buffer).buffer)
      ≡ Err (refused_at ServiceNumberMismatch (section_length (before_field_two (counted l))))
  written_field_two h = rw first_written (field_two_refused l ready h)

  pub written_field_two_shown : names_field_two (counted l) ≡ true
      → list_shown (section_read (take (section_written l buffer).answer.first (section_written l buffer).buffer)) ≡ empty
  written_field_two_shown h = ap list_shown (written_field_two h)
