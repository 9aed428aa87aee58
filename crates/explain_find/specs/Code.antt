-- Follows the code and not the rules: the test that a packet's answer and its place leave. Each part begins where the one in
-- front of it ends, so that a place tells its part, and a size the part that the packet ends in.
use Rattle.std.specs.Prelude.{cond, List, ℕ, zero, suc, ◌+◌, ◌-◌, ◌%◌, eqb, ltb, length}
use Rattle.basis.specs.Bytes.{byte}
use Rattle.basis.specs.Mask.{all_set, x40, x80}
use Rattle.basis.specs.declared.refusal.Refusal.{Refusal}
use Rattle.basis.specs.declared.refusal.Refusal.TheVariants.{
  BufferTooShort,
  ChecksumFailed,
  InvalidFixedBits,
  InvalidServiceNumber,
  LengthMismatch,
  NotWritable,
  SequenceCountMismatch,
  ServiceFlagsMismatched,
  ServiceNumberMismatch,
  UnknownFramerate,
  WouldOverflow,
  WrongCaptionRun,
  WrongMagic,
}
use Rattle.basis.specs.declared.test.ByteTest.{ByteTest}
use Rattle.basis.specs.declared.test.ByteTest.TheVariants.{
  CaptionsFixed,
  CaptionsId,
  Checksum,
  EntryEnd,
  EntryFlags,
  Frames,
  FutureId,
  HeaderFixed,
  HeaderForm,
  HeaderNumber,
  Hours,
  KindField,
  KindFixed,
  KindNumber,
  Minutes,
  Rate,
  SectionFixed,
  ServicesFlags,
  ServicesId,
  TimeId,
}
use Rattle.basis.specs.declared.test.PairTest.TheVariants.{FooterSequence, Magic}
use Rattle.basis.specs.declared.test.SizeTest.{SizeTest}
use Rattle.basis.specs.declared.test.SizeTest.TheVariants.{
  CaptionsHead,
  CaptionsWhole,
  ClosingHead,
  FooterWhole,
  FutureNext,
  FutureWhole,
  PacketLeast,
  PacketSize,
  ServicesHead,
  ServicesWhole,
  TimeWhole,
}
use Rattle.basis.specs.declared.test.Test.{Test}
use Rattle.basis.specs.declared.test.Test.TheVariants.{Byte, Pair, Size}
use Rattle.values.specs.Layout.{footer_id, header_size, least_size, section_entry_size, section_head_size}
use Rattle.read_closing.specs.Closing.{future_length}
use Rattle.read_packet.specs.Packet.{captions_at, closing_at, services_at}

-- answer 1, behind the sections: the future section that the packet ends in, or its footer
abbrev pub closing_test : ℕ → List ℕ → ℕ → SizeTest
closing_test zero p i = FooterWhole
closing_test (suc turns) p i =
    cond (eqb (byte p i) footer_id) FooterWhole
    (cond (ltb (length p) (i + 1 + future_length p i)) FutureWhole
    (cond (ltb (length p) (i + section_head_size + future_length p i + section_head_size)) FutureNext
    (closing_test turns p (i + section_head_size + future_length p i))))

-- answer 1
unfoldable pub size_test : List ℕ → SizeTest
size_test p =
    cond (ltb (length p) least_size) PacketLeast
    (cond (eqb (byte p 2) (length p))
    (cond (ltb (length p) (captions_at p)) TimeWhole
    (cond (ltb (length p) (services_at p))
    (cond (ltb (length p) (captions_at p + section_head_size)) CaptionsHead CaptionsWhole)
    (cond (ltb (length p) (closing_at p))
    (cond (ltb (length p) (services_at p + section_head_size)) ServicesHead ServicesWhole)
    (cond (ltb (length p) (closing_at p + section_head_size)) ClosingHead (closing_test (length p) p (closing_at p))))))
    PacketSize)

-- answer 2, behind the packet's first bytes
unfoldable pub id_test : List ℕ → ℕ → ByteTest
id_test p place =
    cond (ltb place (captions_at p)) TimeId
    (cond (ltb place (services_at p)) CaptionsId (cond (ltb place (closing_at p)) ServicesId FutureId))

-- answer 4 in a time code
unfoldable pub time_test : ℕ → ByteTest
time_test place = cond (eqb place (header_size + 1)) Hours (cond (eqb place (header_size + 2)) Minutes Frames)

-- answer 4 in an entry with its header byte: the place in its seven bytes, and the byte there
unfoldable pub entry_test : ℕ → ℕ → ByteTest
entry_test place b =
    cond (eqb place 0) (cond (all_set x80 b) HeaderForm HeaderFixed)
    (cond (eqb place 4) (cond (all_set x40 b) KindField KindFixed) (cond (eqb place 5) EntryFlags EntryEnd))

-- answer 4
unfoldable pub bits_test : List ℕ → ℕ → ByteTest
bits_test p place =
    cond (ltb place (captions_at p)) (time_test place)
    (cond (ltb place (services_at p)) CaptionsFixed
    (cond (ltb place (services_at p + section_head_size)) SectionFixed
    (entry_test ((place - services_at p - section_head_size) % section_entry_size) (byte p place))))

-- the test that an answer's number and a place leave
unfoldable pub test_from : List ℕ → ℕ → ℕ → Test
test_from p number place =
    cond (eqb number 1) (Size (size_test p))
    (cond (eqb number 2) (cond (eqb place 0) (Pair Magic) (Byte (id_test p place)))
    (cond (eqb number 3) (Byte Rate)
    (cond (eqb number 4) (Byte (bits_test p place))
    (cond (eqb number 5) (Byte Checksum)
    (cond (eqb number 6) (Pair FooterSequence)
    (cond (eqb number 7) (Byte HeaderNumber) (cond (eqb number 8) (Byte KindNumber) (Byte ServicesFlags))))))))

-- the same by the refusal whose number it is; no reader refuses by the last four
unfoldable pub test_left : List ℕ → Refusal → ℕ → Test
test_left p (LengthMismatch expected actual) place = Size (size_test p)
test_left p WrongMagic place = cond (eqb place 0) (Pair Magic) (Byte (id_test p place))
test_left p UnknownFramerate place = Byte Rate
test_left p InvalidFixedBits place = Byte (bits_test p place)
test_left p ChecksumFailed place = Byte Checksum
test_left p SequenceCountMismatch place = Pair FooterSequence
test_left p ServiceNumberMismatch place = Byte HeaderNumber
test_left p InvalidServiceNumber place = Byte KindNumber
test_left p ServiceFlagsMismatched place = Byte ServicesFlags
test_left p WouldOverflow place = Byte ServicesFlags
test_left p (BufferTooShort needed given) place = Byte ServicesFlags
test_left p NotWritable place = Byte ServicesFlags
test_left p WrongCaptionRun place = Byte ServicesFlags
