-- What is said of each test that a packet fails, in the order of the tests.
use Rattle.std.specs.Prelude.{List, ◌++◌, ℕ}
use Rattle.basis.specs.declared.test.Test.{Test}
use Rattle.basis.specs.declared.test.Test.TheVariants.{Byte, Pair, Size}
use Rattle.text.specs.Ascii.{ascii}
use Rattle.text.specs.Lines.{Line}
use Rattle.basis.specs.declared.test.ByteTest.{ByteTest}
use Rattle.basis.specs.declared.test.ByteTest.TheVariants.{
  CaptionsFixed,
  CaptionsId,
  Checksum,
  EntryEnd,
  EntryFlags,
  Frames,
  FutureId,
  HeaderFixed,
  HeaderForm,
  HeaderNumber,
  Hours,
  KindField,
  KindFixed,
  KindNumber,
  Minutes,
  Rate,
  SectionFixed,
  SectionId,
  ServicesFlags,
  ServicesId,
  TimeId,
}
use Rattle.basis.specs.declared.test.PairTest.{PairTest}
use Rattle.basis.specs.declared.test.PairTest.TheVariants.{FooterSequence, Magic}
use Rattle.basis.specs.declared.test.SizeTest.{SizeTest}
use Rattle.basis.specs.declared.test.SizeTest.TheVariants.{
  CaptionRoom,
  CaptionsHead,
  CaptionsWhole,
  ClosingHead,
  FooterWhole,
  FutureNext,
  FutureWhole,
  PacketLeast,
  PacketSize,
  SectionHead,
  SectionSize,
  ServicesHead,
  ServicesWhole,
  TimeWhole,
}

abbrev pub size_words : SizeTest → List ℕ
size_words CaptionRoom = ascii "the buffer for captions has fewer than 95 bytes"
size_words PacketLeast = ascii "the packet has fewer than 11 bytes"
size_words PacketSize = ascii "the packet has another size than its byte 2 says"
size_words TimeWhole = ascii "the packet ends inside its time code"
size_words CaptionsHead = ascii "the packet ends before the count of its captions"
size_words CaptionsWhole = ascii "the packet ends inside its captions"
size_words ServicesHead = ascii "the packet ends before the count of its services"
size_words ServicesWhole = ascii "the packet ends inside its service list"
size_words SectionHead = ascii "the service section has fewer than two bytes"
size_words SectionSize = ascii "the service section has another size than its count says"
size_words ClosingHead = ascii "fewer than two bytes stand behind the packet's sections"
size_words FutureWhole = ascii "the packet ends inside a future section"
size_words FutureNext = ascii "fewer than two bytes stand behind a future section"
size_words FooterWhole = ascii "the packet ends inside its footer"

abbrev pub pair_words : PairTest → List ℕ
pair_words Magic = ascii "the packet does not begin with 96 69"
pair_words FooterSequence = ascii "the sequence in the footer is not the one in the header"

abbrev pub byte_words : ByteTest → List ℕ
byte_words Rate = ascii "the frame rate is none of the eight"
byte_words TimeId = ascii "the time code does not begin with 71"
byte_words Hours = ascii "the hours byte lacks a fixed bit"
byte_words Minutes = ascii "the minutes byte lacks its fixed bit"
byte_words Frames = ascii "the frames byte has a bit set that has to be clear"
byte_words CaptionsId = ascii "the captions do not begin with 72"
byte_words CaptionsFixed = ascii "the caption count lacks a fixed bit"
byte_words ServicesId = ascii "the service list does not begin with 73"
byte_words SectionId = ascii "the service section does not begin with 73"
byte_words SectionFixed = ascii "the service count lacks its fixed bit"
byte_words HeaderFixed = ascii "the byte in front of a service lacks its first fixed bit"
byte_words HeaderForm = ascii "the byte in front of a service lacks its second fixed bit"
byte_words KindFixed = ascii "the number byte of a service lacks its fixed bit"
byte_words KindNumber = ascii "a digital service has the number 0"
byte_words KindField = ascii "the number byte of a caption field lacks a fixed bit"
byte_words EntryFlags = ascii "the flag byte of a service lacks a fixed bit"
byte_words EntryEnd = ascii "the last byte of a service is not ff"
byte_words HeaderNumber = ascii "the byte in front of a service names another number than the service has"
byte_words ServicesFlags = ascii "header and service list differ in start, change or complete"
byte_words FutureId = ascii "a byte that has to begin a section or the footer begins neither"
byte_words Checksum = ascii "the checksum byte is not the one that the packet's bytes give"

abbrev pub test_words : Test → List ℕ
test_words (Size test) = size_words test
test_words (Pair test) = pair_words test
test_words (Byte test) = byte_words test

-- the first line of a refusal
abbrev pub refused_line : Test → Line
refused_line test = ascii "refused: " ++ test_words test
