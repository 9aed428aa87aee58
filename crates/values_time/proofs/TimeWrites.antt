-- Writing a time code, test by test, as with reading; and that reading takes back what writing made.
-- Assumes nothing.
use mathlib.Core.Path.{◌≡◌, ◌∙◌, sym}
use mathlib.Core.Bool.{Bool, true, false}
use Prim.Native.Nat.{ℕ, ◌+◌, ◌/◌, ◌%◌, ◌≤◌, ◌<◌}
use native.Mathlib.Omega.{arith}
use lib.ListN.{get_or}
use borrow.Author.Tests.{le-leb, lt-leb}
use Rattle.std.specs.Prelude.{Ok, Err}
use Rattle.basis.specs.declared.refusal.Refusal.TheVariants.{NotWritable}
use Rattle.basis.specs.Mask.{flag, all_set, x80}
use Rattle.values_time.specs.Time.{digits, digit_bits, time_bytes, time_read, time_written}
use Rattle.values_time.specs.Code.{InRange}
use Rattle.values_time.proofs.Digits.{digits_back, above_back}
use Rattle.values_time.proofs.TimeReads.{all_right}
use Rattle.values_time.specs.declared.time.TimeCode.{TimeCode}

module _ (t : TimeCode) where
  pub hours_over : 39 < t.hours → Err NotWritable ≡ time_written t
  unfolding time_written
  hours_over h = simp (lt-leb _ _ h)

  pub minutes_over : t.hours ≤ 39 → 79 < t.minutes → Err NotWritable ≡ time_written t
  unfolding time_written
  minutes_over h m = simp (le-leb _ _ h, lt-leb _ _ m)

  pub seconds_over : t.hours ≤ 39 → t.minutes ≤ 79 → 79 < t.seconds → Err NotWritable ≡ time_written t
  unfolding time_written
  seconds_over h m s = simp (le-leb _ _ h, le-leb _ _ m, lt-leb _ _ s)

  pub frames_over : t.hours ≤ 39 → t.minutes ≤ 79 → t.seconds ≤ 79 → 39 < t.frames → Err NotWritable ≡ time_written t
  unfolding time_written
  frames_over h m s f = simp (le-leb _ _ h, le-leb _ _ m, le-leb _ _ s, lt-leb _ _ f)

  pub in_range : InRange t → Ok (time_bytes t) ≡ time_written t
  unfolding time_written
  in_range r = simp (le-leb _ _ r.hours, le-leb _ _ r.minutes, le-leb _ _ r.seconds, le-leb _ _ r.frames)

-- what writing makes, byte by byte: the fixed bits are there, flag and value are read back
flag_back : (on : Bool) (value : ℕ) → value ≤ 79 → all_set x80 (flag on 0x80 + digit_bits value) ≡ on
flag_back true value h = rw (above_back 3 value 1 (omega arith))
flag_back false value h = rw (above_back 3 value 0 (omega arith))

seconds_back : (on : Bool) (value : ℕ) → value ≤ 79 → digits 3 (flag on 0x80 + digit_bits value) ≡ value
seconds_back true value h = digits_back 3 value 1 (omega arith)
seconds_back false value h = digits_back 3 value 0 (omega arith)

frames_back : (on : Bool) (value : ℕ) → value ≤ 39 → digits 2 (flag on 0x80 + digit_bits value) ≡ value
frames_back true value h = digits_back 2 value 2 (omega arith)
frames_back false value h = digits_back 2 value 0 (omega arith)

frames_fixed : (on : Bool) (value : ℕ) → value ≤ 39 → (flag on 0x80 + digit_bits value) / 64 % 2 ≡ 0
frames_fixed true value h = rw (above_back 2 value 2 (omega arith))
frames_fixed false value h = rw (above_back 2 value 0 (omega arith))

hours_fixed : (value : ℕ) → value ≤ 39 → (0xC0 + digit_bits value) / 64 % 4 ≡ 3
hours_fixed value h = rw (above_back 2 value 3 (omega arith))

minutes_fixed : (value : ℕ) → value ≤ 79 → (0x80 + digit_bits value) / 128 % 2 ≡ 1
minutes_fixed value h = rw (above_back 3 value 1 (omega arith))

-- a time code in range is read back from the bytes that writing makes of it
pub time_back : (t : TimeCode) → InRange t
    → time_read (get_or (time_bytes t) 0 0) (get_or (time_bytes t) 1 0) (get_or (time_bytes t) 2 0) (get_or (time_bytes t) 3 0)
    ≡ Ok t
time_back t r =
    sym (all_right _ _ _ _ (hours_fixed t.hours r.hours) (minutes_fixed t.minutes r.minutes)
    (frames_fixed t.drop_frame t.frames r.frames))
    ∙ simp (
      digits_back 2 t.hours 3 (omega arith),
      digits_back 3 t.minutes 1 (omega arith),
      seconds_back t.field t.seconds r.seconds,
      frames_back t.drop_frame t.frames r.frames,
      flag_back t.field t.seconds r.seconds,
      flag_back t.drop_frame t.frames (omega arith),
    )
