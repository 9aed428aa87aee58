-- What the digests of the sweep go over: the times of an hour, and the sequences of a high byte.
use Rattle.std.specs.Prelude.{List, [], ◌∷◌, ℕ, ◌+◌, ◌*◌, ◌/◌, ◌%◌, Result, Ok, Err, eqb}
use Rattle.basis.specs.Answer.{refused}
use Rattle.basis.specs.Bytes.{byte}
use Rattle.basis.specs.declared.refusal.Refusal.{Refusal}
use Rattle.values.specs.Checksum.{total, negative}
use Rattle.values.specs.Sequence.{sequence_of, sequence_bytes}
use Rattle.values_time.specs.Time.{time_code, time_written}
use Rattle.report.specs.Digest.{fed, two_fed, all_fed, swept}
use Rattle.values_time.specs.declared.time.TimeCode.{TimeCode}

-- the nth time of an hour: drop frame changes first, then the field, 41 frames, 81 seconds, 81 minutes
abbrev pub nth_time : ℕ → ℕ → TimeCode
nth_time hours n =
    time_code (hours % 256) (n / 13284 % 81) (n / 164 % 81) (n / 4 % 41) (eqb (n / 2 % 2) 1) (eqb (n % 2) 1)

-- what is answered and, where it is done, the four bytes
abbrev pub written_fed : ℕ → Result (List ℕ) Refusal → ℕ
written_fed digest (Ok bytes) = all_fed (fed digest 0) bytes
written_fed digest (Err why) = fed digest (refused why).number

unfoldable pub nth_time_fed : ℕ → ℕ → ℕ → ℕ
nth_time_fed hours digest n = written_fed digest (time_written (nth_time hours n))

-- the sequence of a high byte and a low one
abbrev pub nth_sequence : ℕ → ℕ → ℕ
nth_sequence high low = high % 256 * 256 + low % 256

-- the smallest packet that has the sequence of these two bytes, without its checksum
abbrev pub smallest : List ℕ → List ℕ
smallest made =
    0x96 ∷ 0x69 ∷ 0x0D ∷ 0x3F ∷ 0x43 ∷ byte made 0 ∷ byte made 1 ∷ 0x72 ∷ 0xE0 ∷ 0x74 ∷ byte made 0 ∷ byte made 1 ∷ []

-- the two bytes of a sequence, the packet's checksum, and the sequence that the bytes are read as
abbrev pub bytes_fed : ℕ → List ℕ → ℕ
bytes_fed digest made =
    two_fed (fed (all_fed digest made) (negative (total (smallest made)))) (sequence_of (byte made 0) (byte made 1))

unfoldable pub nth_sequence_fed : ℕ → ℕ → ℕ → ℕ
nth_sequence_fed high digest low = bytes_fed digest (sequence_bytes (nth_sequence high low))

-- the digest of an hour: 81 minutes, 81 seconds and 41 frames, one past each limit included, with field and drop frame
abbrev pub times_digest : ℕ → ℕ
times_digest hours = swept (nth_time_fed hours) 1076004

-- the digest of a high byte
abbrev pub sequences_digest : ℕ → ℕ
sequences_digest high = swept (nth_sequence_fed high) 256
