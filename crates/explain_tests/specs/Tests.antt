-- The numbered tests of reading, one row each: the rule that makes the test in a packet, and what the test takes.
use Rattle.std.specs.Prelude.{Bool, true, false, not, ◌&&◌, ◌||◌, List, [], ◌∷◌, ℕ, ◌+◌, ◌*◌, eqb, is_some, leb}
use Rattle.basis.specs.Bytes.{byte}
use Rattle.basis.specs.Mask.{all_clear, all_set, bit_run, under, x20, x3e, x3f, x40, x70, x80, xc0, xe0, xf0}
use Rattle.basis.specs.declared.test.ByteTest.{ByteTest}
use Rattle.basis.specs.declared.test.ByteTest.TheVariants.{
  CaptionsFixed,
  CaptionsId,
  Checksum,
  EntryEnd,
  EntryFlags,
  Frames,
  FutureId,
  HeaderFixed,
  HeaderForm,
  HeaderNumber,
  Hours,
  KindField,
  KindFixed,
  KindNumber,
  Minutes,
  Rate,
  SectionFixed,
  SectionId,
  ServicesFlags,
  ServicesId,
  TimeId,
}
use Rattle.basis.specs.declared.test.PairTest.{PairTest}
use Rattle.basis.specs.declared.test.PairTest.TheVariants.{FooterSequence, Magic}
use Rattle.basis.specs.declared.test.SizeTest.{SizeTest}
use Rattle.basis.specs.declared.test.SizeTest.TheVariants.{
  CaptionRoom,
  CaptionsHead,
  CaptionsWhole,
  ClosingHead,
  FooterWhole,
  FutureNext,
  FutureWhole,
  PacketLeast,
  PacketSize,
  SectionHead,
  SectionSize,
  ServicesHead,
  ServicesWhole,
  TimeWhole,
}
use Rattle.basis.specs.declared.test.Test.{Test}
use Rattle.basis.specs.declared.test.Test.TheVariants.{Byte, Pair, Size}
use Rattle.values.specs.Layout.{captions_id, footer_id, services_id, time_code_id}
use Rattle.values.specs.Rate.{from_id}
use Rattle.service_entry.specs.Entry.{entry_of}
use Rattle.service_entry.specs.Service.{number_of}
use Rattle.service_entries.specs.Entries.{named_by, six_behind}
use Rattle.read_closing.specs.Closing.{checksum_of}
use Rattle.read_packet.specs.Packet.{services_at}

-- Tests of a size: the rule, and whether it has to be just the one asked for, or that one or more. 1.1; 2.1, 2.3; 5.1; 6.1, 6.4;
-- 7.1, 7.3; S1, S4; 8.1, 8.3, 8.4; 9.1
pub record SizeRow : Type 0 where
  pub rule : ℕ
  pub exact : Bool

abbrev pub at_least : ℕ → SizeRow
at_least rule = record { rule = rule; exact = false }

abbrev pub just_that : ℕ → SizeRow
just_that rule = record { rule = rule; exact = true }

abbrev pub size_row : SizeTest → SizeRow
size_row CaptionRoom = at_least 1
size_row PacketLeast = at_least 2
size_row PacketSize = just_that 2
size_row TimeWhole = at_least 5
size_row CaptionsHead = at_least 6
size_row CaptionsWhole = at_least 6
size_row ServicesHead = at_least 7
size_row ServicesWhole = at_least 7
size_row SectionHead = at_least 7
size_row SectionSize = just_that 7
size_row ClosingHead = at_least 8
size_row FutureWhole = at_least 8
size_row FutureNext = at_least 8
size_row FooterWhole = at_least 9

-- Tests of two bytes, 2.2 and 9.2: the rule, and the two that the packet has to have there
pub record PairRow : Type 0 where
  pub rule : ℕ
  pub first : List ℕ → ℕ
  pub second : List ℕ → ℕ

abbrev pub pair_row : PairTest → PairRow
pair_row Magic = record { rule = 2; first = λ p. 0x96; second = λ p. 0x69 }
pair_row FooterSequence = record { rule = 9; first = λ p. byte p 5; second = λ p. byte p 6 }

-- Tests of one byte: the rule; what the packet says, for a place, that the byte there is compared with; what is asked of a
-- value, compared with that; and what else that byte is tested for by itself
pub record ByteRow : Type 0 where
  pub rule : ℕ
  pub says : List ℕ → ℕ → ℕ
  pub asked : ℕ → ℕ → Bool
  pub others : List ByteTest

-- a byte that is compared with nothing else in the packet
abbrev pub by_itself : ℕ → (ℕ → Bool) → List ByteTest → ByteRow
by_itself rule asked others = record { rule = rule; says = λ p place. 0; asked = λ said v. asked v; others = others }

abbrev pub compared_with : ℕ → (List ℕ → ℕ → ℕ) → (ℕ → ℕ → Bool) → List ByteTest → ByteRow
compared_with rule says asked others = record { rule = rule; says = says; asked = asked; others = others }

-- S8: the number of the entry behind the header byte at a place, 0 for a field
abbrev pub number_wanted : List ℕ → ℕ → ℕ
number_wanted p place = number_of (entry_of (six_behind p place)).service

-- 7.4: the six upper bits of byte 4: first 80, 40 and 20, which the packet keeps, for they say which sections are read; then
-- start, change and complete, which are the section's
abbrev pub flags_wanted : List ℕ → ℕ
flags_wanted p = under xe0 (byte p 4) * 8 + under x70 (byte p (services_at p + 1))

-- 3.1; 5.2 to 5.5; 6.2, 6.3; 7.2; S2, S3; S5, S6; E1, E2a, E2b, E3, E4; S8; 7.4; 8.2; 9.3. E2a asks of a digital service alone,
-- E2b of a field; 8.2 asks of what is not the footer
abbrev pub byte_row : ByteTest → ByteRow
byte_row Rate = by_itself 3 (λ v. is_some (from_id (under xf0 v))) []
byte_row TimeId = by_itself 5 (λ v. eqb v time_code_id) []
byte_row Hours = by_itself 5 (λ v. all_set xc0 v) []
byte_row Minutes = by_itself 5 (λ v. all_set x80 v) []
byte_row Frames = by_itself 5 (λ v. all_clear x40 v) []
byte_row CaptionsId = by_itself 6 (λ v. eqb v captions_id) []
byte_row CaptionsFixed = by_itself 6 (λ v. all_set xe0 v) []
byte_row ServicesId = by_itself 7 (λ v. eqb v services_id) []
byte_row SectionId = by_itself 7 (λ v. eqb v services_id) []
byte_row SectionFixed = by_itself 7 (λ v. all_set x80 v) []
byte_row HeaderFixed = by_itself 7 (λ v. all_set x80 v) (HeaderForm ∷ [])
byte_row HeaderForm = by_itself 7 (λ v. not (all_set x40 v) || all_set x20 v) (HeaderFixed ∷ [])
byte_row KindFixed = by_itself 7 (λ v. all_set x40 v) (KindNumber ∷ KindField ∷ [])
byte_row KindNumber = by_itself 7 (λ v. not (all_set x80 v) || not (all_clear x3f v)) (KindFixed ∷ KindField ∷ [])
byte_row KindField = by_itself 7 (λ v. all_set x80 v || all_set x3e v) (KindFixed ∷ KindNumber ∷ [])
byte_row EntryFlags = by_itself 7 (λ v. all_set x3f v) []
byte_row EntryEnd = by_itself 7 (λ v. eqb v 0xFF) []
byte_row HeaderNumber = compared_with 7 number_wanted (λ said v. eqb (named_by v) said) (HeaderFixed ∷ HeaderForm ∷ [])
byte_row ServicesFlags = compared_with 7 (λ p place. flags_wanted p) (λ said v. eqb (under (bit_run 6 2) v) said) []
byte_row FutureId = by_itself 8 (λ v. eqb v footer_id || (leb 0x75 v && leb v 0xEF)) []
byte_row Checksum = compared_with 9 (λ p place. checksum_of p) (λ said v. eqb v said) []

-- whether a test is kept, made of a value
abbrev pub asks : ByteTest → ℕ → ℕ → Bool
asks test said v = (byte_row test).asked said v

-- whether all of these are
abbrev pub all_ask : List ByteTest → ℕ → ℕ → Bool
all_ask [] said v = true
all_ask (test ∷ tests) said v = asks test said v && all_ask tests said v

-- a value is taken where the others and the test itself are kept
abbrev pub takes : ByteTest → ℕ → ℕ → Bool
takes test said v = all_ask (byte_row test).others said v && asks test said v

-- the rule that a test belongs to; those of a section and of an entry, in a packet, belong to rule 7
abbrev pub rule_of : Test → ℕ
rule_of (Size test) = (size_row test).rule
rule_of (Pair test) = (pair_row test).rule
rule_of (Byte test) = (byte_row test).rule
