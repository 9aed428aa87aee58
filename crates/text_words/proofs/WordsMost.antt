-- How long what is said of a test can be.
-- Assumes nothing.
use Prim.Native.Nat.{◌≤◌}
use lib.Dec.{lit≤}
use lib.ListN.{length}
use Rattle.text_words.specs.Words.{byte_words, pair_words, size_words, test_words}
use Rattle.basis.specs.declared.test.Test.{Test}
use Rattle.basis.specs.declared.test.Test.TheVariants.{Byte, Pair, Size}
use Rattle.basis.specs.declared.test.ByteTest.{ByteTest}
use Rattle.basis.specs.declared.test.ByteTest.TheVariants.{
  CaptionsFixed,
  CaptionsId,
  Checksum,
  EntryEnd,
  EntryFlags,
  Frames,
  FutureId,
  HeaderFixed,
  HeaderForm,
  HeaderNumber,
  Hours,
  KindField,
  KindFixed,
  KindNumber,
  Minutes,
  Rate,
  SectionFixed,
  SectionId,
  ServicesFlags,
  ServicesId,
  TimeId,
}
use Rattle.basis.specs.declared.test.PairTest.{PairTest}
use Rattle.basis.specs.declared.test.PairTest.TheVariants.{FooterSequence, Magic}
use Rattle.basis.specs.declared.test.SizeTest.{SizeTest}
use Rattle.basis.specs.declared.test.SizeTest.TheVariants.{
  CaptionRoom,
  CaptionsHead,
  CaptionsWhole,
  ClosingHead,
  FooterWhole,
  FutureNext,
  FutureWhole,
  PacketLeast,
  PacketSize,
  SectionHead,
  SectionSize,
  ServicesHead,
  ServicesWhole,
  TimeWhole,
}

size_words_most : (test : SizeTest) → length (size_words test) ≤ 72
size_words_most CaptionRoom = lit≤ tt
size_words_most PacketLeast = lit≤ tt
size_words_most PacketSize = lit≤ tt
size_words_most TimeWhole = lit≤ tt
size_words_most CaptionsHead = lit≤ tt
size_words_most CaptionsWhole = lit≤ tt
size_words_most ServicesHead = lit≤ tt
size_words_most ServicesWhole = lit≤ tt
size_words_most SectionHead = lit≤ tt
size_words_most SectionSize = lit≤ tt
size_words_most ClosingHead = lit≤ tt
size_words_most FutureWhole = lit≤ tt
size_words_most FutureNext = lit≤ tt
size_words_most FooterWhole = lit≤ tt

pair_words_most : (test : PairTest) → length (pair_words test) ≤ 72
pair_words_most Magic = lit≤ tt
pair_words_most FooterSequence = lit≤ tt

byte_words_most : (test : ByteTest) → length (byte_words test) ≤ 72
byte_words_most Rate = lit≤ tt
byte_words_most TimeId = lit≤ tt
byte_words_most Hours = lit≤ tt
byte_words_most Minutes = lit≤ tt
byte_words_most Frames = lit≤ tt
byte_words_most CaptionsId = lit≤ tt
byte_words_most CaptionsFixed = lit≤ tt
byte_words_most ServicesId = lit≤ tt
byte_words_most SectionId = lit≤ tt
byte_words_most SectionFixed = lit≤ tt
byte_words_most HeaderFixed = lit≤ tt
byte_words_most HeaderForm = lit≤ tt
byte_words_most KindFixed = lit≤ tt
byte_words_most KindNumber = lit≤ tt
byte_words_most KindField = lit≤ tt
byte_words_most EntryFlags = lit≤ tt
byte_words_most EntryEnd = lit≤ tt
byte_words_most HeaderNumber = lit≤ tt
byte_words_most ServicesFlags = lit≤ tt
byte_words_most FutureId = lit≤ tt
byte_words_most Checksum = lit≤ tt

pub words_most : (test : Test) → length (test_words test) ≤ 72
words_most (Size test) = size_words_most test
words_most (Pair test) = pair_words_most test
words_most (Byte test) = byte_words_most test
