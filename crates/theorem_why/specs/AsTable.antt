-- A check is the test that the table of tests has, made of the packet's own bytes at the check's place.
use Rattle.std.specs.Prelude.{Bool, cond, ◌&&◌, List, [], ◌∷◌, ◌≡◌, ℕ, ◌+◌, ◌<◌, eqb, leb, length}
use Rattle.basis.specs.Answer.{refused}
use Rattle.basis.specs.declared.refusal.Refusal.TheVariants.{LengthMismatch}
use Rattle.basis.specs.Bytes.{byte}
use Rattle.basis.specs.Check.{Check}
use Rattle.basis.specs.declared.test.SizeTest.{SizeTest}
use Rattle.basis.specs.declared.test.SizeTest.TheVariants.{
  CaptionRoom,
  CaptionsHead,
  CaptionsWhole,
  ClosingHead,
  FooterWhole,
  FutureNext,
  FutureWhole,
  PacketLeast,
  PacketSize,
  SectionHead,
  SectionSize,
  ServicesHead,
  ServicesWhole,
  TimeWhole,
}
use Rattle.basis.specs.declared.test.Test.{Test}
use Rattle.basis.specs.declared.test.Test.TheVariants.{Byte, Pair, Size}
use Rattle.read_services.specs.Services.{services_part}
use Rattle.read_packet.specs.Packet.{services_at}
use Rattle.explain_tests.specs.Tests.{asks, byte_row, pair_row, size_row}

-- what holds of every check of a list, of those behind a broken one too
pub data Every (good : Check → Type 0) : List Check → Type 0 where
  no_check : Every good []
  also_of : {c : Check} {cs : List Check} → good c → Every good cs → Every good (c ∷ cs)

-- a list of bytes
abbrev pub EachByte : List ℕ → Type 0
EachByte p = (i : ℕ) → byte p i < 256

-- what a test of a size measures: S1 and S4 the section's own bytes, all others the packet
abbrev pub measured_by : SizeTest → List ℕ → List ℕ
measured_by CaptionRoom p = p
measured_by PacketLeast p = p
measured_by PacketSize p = p
measured_by TimeWhole p = p
measured_by CaptionsHead p = p
measured_by CaptionsWhole p = p
measured_by ServicesHead p = p
measured_by ServicesWhole p = p
measured_by SectionHead p = services_part p (services_at p)
measured_by SectionSize p = services_part p (services_at p)
measured_by ClosingHead p = p
measured_by FutureWhole p = p
measured_by FutureNext p = p
measured_by FooterWhole p = p

-- whether a size is the one asked for, or has it at least
abbrev pub size_asks : SizeTest → ℕ → ℕ → Bool
size_asks test asked size = cond (size_row test).exact (eqb asked size) (leb asked size)

-- whether the two bytes from a place on are those that are asked for
abbrev pub pair_asks : List ℕ → ℕ → ℕ → ℕ → Bool
pair_asks p place first second = eqb (byte p place) first && eqb (byte p (place + 1)) second

-- the size that is asked for is the answer's first value, the one that is met its second
pub record SizeTested (test : SizeTest) (size : ℕ) (c : Check) : Type 0 where
  pub answers : c.rule.refusal ≡ LengthMismatch (refused c.rule.refusal).first size
  pub asks : c.kept ≡ size_asks test (refused c.rule.refusal).first size

-- by its test, the check is the table's; two bytes are compared one by one where they are bytes
abbrev pub Tabled : List ℕ → Test → Check → Type 0
Tabled p (Size test) c = SizeTested test (length (measured_by test p)) c
Tabled p (Pair test) c = EachByte p → c.kept ≡ pair_asks p c.rule.at.place ((pair_row test).first p) ((pair_row test).second p)
Tabled p (Byte test) c = c.kept ≡ asks test ((byte_row test).says p c.rule.at.place) (byte p c.rule.at.place)

abbrev pub AsTable : List ℕ → Check → Type 0
AsTable p c = Tabled p c.rule.at.test c
