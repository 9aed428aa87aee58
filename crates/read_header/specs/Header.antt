-- Rules 2 to 4: the first seven bytes.
use Rattle.std.specs.Prelude.{◌&&◌, List, [], ◌∷◌, ◌++◌, ℕ, Option, is_some, eqb, length}
use Rattle.basis.specs.declared.refusal.Refusal.TheVariants.{LengthMismatch, WrongMagic, UnknownFramerate}
use Rattle.basis.specs.Bytes.{byte}
use Rattle.basis.specs.Check.{Check, check_at, size_check}
use Rattle.basis.specs.declared.test.SizeTest.TheVariants.{PacketLeast, PacketSize}
use Rattle.basis.specs.declared.test.PairTest.TheVariants.{Magic}
use Rattle.basis.specs.declared.test.ByteTest.TheVariants.{Rate}
use Rattle.basis.specs.declared.test.Test.TheVariants.{Size, Pair, Byte}
use Rattle.values.specs.Flags.{flags_of}
use Rattle.basis.specs.Mask.{under, xf0}
use Rattle.values.specs.Layout.{least_size}
use Rattle.values.specs.Rate.{from_id}
use Rattle.values.specs.Sequence.{sequence_of}
use Rattle.values.specs.declared.flags.Flags.{Flags}
use Rattle.values.specs.declared.framerate.Framerate.{Framerate}

-- rule 3: the id is the high four bits of byte 3
abbrev pub rate_of : List ℕ → Option Framerate
rate_of p = from_id (under xf0 (byte p 3))

-- rule 4: the flags are byte 4, the sequence bytes 5 and 6
abbrev pub flags_in : List ℕ → Flags
flags_in p = flags_of (byte p 4)

abbrev pub sequence_in : List ℕ → ℕ
sequence_in p = sequence_of (byte p 5) (byte p 6)

-- rule 2. 2.1: the least size; 2.2: 96 69; 2.3: the size that byte 2 says
abbrev pub packet_frame_checks : List ℕ → List Check
packet_frame_checks p =
    size_check PacketLeast p least_size
    ∷ check_at 0 (Pair Magic) (eqb (byte p 0) 0x96 && eqb (byte p 1) 0x69) WrongMagic
    ∷ check_at (length p) (Size PacketSize) (eqb (byte p 2) (length p)) (LengthMismatch (byte p 2) (length p))
    ∷ []

-- rule 3. 3.1: one of the eight rates
abbrev pub rate_checks : List ℕ → List Check
rate_checks p = check_at 3 (Byte Rate) (is_some (rate_of p)) UnknownFramerate ∷ []

abbrev pub header_checks : List ℕ → List Check
header_checks p = packet_frame_checks p ++ rate_checks p
