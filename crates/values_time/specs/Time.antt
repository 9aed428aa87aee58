-- Rule 5: the time code, its four bytes read and made.
use Rattle.std.specs.Prelude.{Bool, true, false, List, [], ◌∷◌, ℕ, ◌+◌, ◌*◌, ◌/◌, ◌%◌, Result, leb}
use Rattle.basis.specs.declared.refusal.Refusal.{Refusal}
use Rattle.basis.specs.declared.refusal.Refusal.TheVariants.{InvalidFixedBits, NotWritable}
use Rattle.basis.specs.Check.{Check, WriteCheck, check, check_at, read_as, verdict, write_as}
use Rattle.basis.specs.declared.refusal.Refused.{Refused}
use Rattle.basis.specs.declared.test.ByteTest.TheVariants.{Hours, Minutes, Frames}
use Rattle.basis.specs.declared.test.Test.TheVariants.{Byte}
use Rattle.basis.specs.Mask.{under, bit_run, all_set, all_clear, flag, x80, x40, xc0, x0f}
use Rattle.values_time.specs.declared.time.MaybeTimeCode.{MaybeTimeCode}
use Rattle.values_time.specs.declared.time.TimeCode.{TimeCode}

abbrev pub time_code : ℕ → ℕ → ℕ → ℕ → Bool → Bool → TimeCode
time_code hours minutes seconds frames field drop =
    record { hours = hours; minutes = minutes; seconds = seconds; frames = frames; field = field; drop_frame = drop }

-- zeros, where there is no time code
abbrev pub no_time : TimeCode
no_time = time_code 0 0 0 0 false false

-- a time code that is there, and one that is not
abbrev pub time_present : TimeCode → MaybeTimeCode
time_present t = record { present = true; time_code = t }

abbrev pub time_absent : MaybeTimeCode
time_absent = record { present = false; time_code = no_time }

-- the low four bits, 10 to 15 too
abbrev pub units : ℕ → ℕ
units b = under x0f b

-- ten times the tens, the so many bits above the units, plus the units
unfoldable pub digits : ℕ → ℕ → ℕ
digits tens_bits b = under (bit_run tens_bits 4) b * 10 + units b

-- 5.3: hours have both bits of C0; 5.4: minutes have 80; 5.5: frames do not have 40; places are counted from the hours
abbrev pub time_checks : ℕ → ℕ → ℕ → ℕ → List Check
time_checks hours minutes seconds frames =
    check_at 0 (Byte Hours) (all_set xc0 hours) InvalidFixedBits
    ∷ check_at 1 (Byte Minutes) (all_set x80 minutes) InvalidFixedBits
    ∷ check_at 3 (Byte Frames) (all_clear x40 frames) InvalidFixedBits
    ∷ []

-- two tens bits in hours and frames, three in minutes and seconds; 80 is the field in seconds, drop frame in frames
abbrev pub time_of : ℕ → ℕ → ℕ → ℕ → TimeCode
time_of hours minutes seconds frames =
    time_code (digits 2 hours) (digits 3 minutes) (digits 3 seconds) (digits 2 frames) (all_set x80 seconds) (all_set x80 frames)

-- what reading the four bytes gives; a refusal gives no time code
unfoldable pub time_read : ℕ → ℕ → ℕ → ℕ → Result TimeCode Refused
time_read hours minutes seconds frames =
    read_as (verdict (time_checks hours minutes seconds frames)) (time_of hours minutes seconds frames)

-- Writing: hours and frames 0 to 39, minutes and seconds 0 to 79
abbrev pub most_hours : ℕ
most_hours = 39

abbrev pub most_minutes : ℕ
most_minutes = 79

abbrev pub most_seconds : ℕ
most_seconds = 79

abbrev pub most_frames : ℕ
most_frames = 39

-- W3 to W6
abbrev pub time_write_checks : TimeCode → List WriteCheck
time_write_checks t =
    check (leb t.hours most_hours) NotWritable
    ∷ check (leb t.minutes most_minutes) NotWritable
    ∷ check (leb t.seconds most_seconds) NotWritable
    ∷ check (leb t.frames most_frames) NotWritable
    ∷ []

-- the tens above the units, both below ten and so four bits each
abbrev pub digit_bits : ℕ → ℕ
digit_bits value = value / 10 * 16 + value % 10

-- the four bytes, fixed bits set
abbrev pub time_bytes : TimeCode → List ℕ
time_bytes t =
    (0xC0 + digit_bits t.hours)
    ∷ (0x80 + digit_bits t.minutes)
    ∷ (flag t.field 0x80 + digit_bits t.seconds)
    ∷ (flag t.drop_frame 0x80 + digit_bits t.frames)
    ∷ []

-- what making the four bytes gives; a refusal gives no bytes
unfoldable pub time_written : TimeCode → Result (List ℕ) Refusal
time_written t = write_as (verdict (time_write_checks t)) (time_bytes t)
