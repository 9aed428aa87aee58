-- The header read back: rate, flags, sequence.
-- Assumes nothing.
use mathlib.Core.Bool.{Bool, true, false, false≢true}
use mathlib.Core.List.{List, ◌++◌}
use mathlib.Core.Path.{◌≡◌, ◌∙◌, ap}
use Prim.Native.Nat.{ℕ, ◌+◌, ◌*◌, ◌/◌, ◌%◌, ◌≤◌}
use native.Mathlib.Omega.{arith}
use borrow.Author.Tests.{eq-eqb, eqb-true, le-leb}
use lib.Dec.{eqb}
use lib.ListN.{length}
use Rattle.std.specs.Prelude.{Option, Some, None}
use Rattle.std.specs.Option.{option_eq}
use Rattle.basis.proofs.Bools.{and_left, and_right}
use Rattle.basis.specs.Check.{clear, verdict}
use Rattle.values.specs.Flags.{flag_byte, flags_of}
use Rattle.basis.specs.Mask.{flag, under, x80, x40, x20, x10, x08, x04, x02}
use Rattle.values.proofs.Rates.{is_row, same_rate}
use Rattle.values.specs.Rate.{from_id, known}
use Rattle.service_list.proofs.SectionBack.{bit_back}
use Rattle.read_header.specs.Header.{header_checks, rate_of, sequence_in}
use Rattle.write_checks.proofs.Tests.{known_id}
use Rattle.write_bytes.specs.PacketWriting.{header_bytes}
use Rattle.values.specs.declared.flags.Flags.{Flags}
use Rattle.values.specs.declared.framerate.Framerate.{Framerate}

-- a rate that can be written is the one that its id names
same_so : (m : Option Framerate) (a : Framerate) → option_eq same_rate m (Some a) ≡ true → m ≡ Some a
same_so None a h = absurd (false≢true h)
same_so (Some r) a h =
    let both = and_right (eqb r.id a.id) _ h in
    let id : r.id ≡ a.id = eqb-true _ _ (and_left _ _ h) in
    let numer : r.numer ≡ a.numer = eqb-true _ _ (and_left _ _ both) in
    let denom : r.denom ≡ a.denom = eqb-true _ _ (and_right (eqb r.numer a.numer) _ both) in
    rw (← id, ← numer, ← denom)

pub rate_known : (a : Framerate) → known a ≡ true → from_id a.id ≡ Some a
rate_known a h = same_so (from_id a.id) a (is_row a ∙ h)

-- the upper three flags stand above five bits, the lower three in these
record Upper (a b c : Bool) (n whole : ℕ) : Type 0 where
  time : under x80 whole ≡ flag a 1
  captions : under x40 whole ≡ flag b 1
  services : under x20 whole ≡ flag c 1
  low : whole % 32 ≡ n

upper : (a b c : Bool) (n : ℕ) → n ≤ 31 → Upper a b c n (flag a 0x80 + flag b 0x40 + flag c 0x20 + n)
upper true true true n h = omega arith
upper true true false n h = omega arith
upper true false true n h = omega arith
upper true false false n h = omega arith
upper false true true n h = omega arith
upper false true false n h = omega arith
upper false false true n h = omega arith
upper false false false n h = omega arith

abbrev low : Bool → Bool → Bool → ℕ
low d e g = flag d 0x10 + flag e 0x08 + flag g 0x04 + 0x02 + 0x01

record Lower (d e g : Bool) : Type 0 where
  most : low d e g ≤ 31
  start : under x10 (low d e g) ≡ flag d 1
  change : under x08 (low d e g) ≡ flag e 1
  complete : under x04 (low d e g) ≡ flag g 1
  active : under x02 (low d e g) ≡ 1

lower : (d e g : Bool) → Lower d e g
lower true true true = omega arith
lower true true false = omega arith
lower true false true = omega arith
lower true false false = omega arith
lower false true true = omega arith
lower false true false = omega arith
lower false false true = omega arith
lower false false false = omega arith

-- the bits below 20 are those of the lowest five
record SameLow (whole n : ℕ) : Type 0 where
  start : under x10 whole ≡ under x10 n
  change : under x08 whole ≡ under x08 n
  complete : under x04 whole ≡ under x04 n
  active : under x02 whole ≡ under x02 n

same_low : (whole n : ℕ) → whole % 32 ≡ n → SameLow whole n
same_low whole n h = omega arith

-- flags are read back where 02 is on, as it is always written
pub flags_back : (f : Flags) → f.caption_service_active ≡ true → flags_of (flag_byte f) ≡ f
flags_back f active =
    let n : ℕ = low f.svc_info_start f.svc_info_change f.svc_info_complete in
    let l : Lower f.svc_info_start f.svc_info_change f.svc_info_complete =
    lower f.svc_info_start f.svc_info_change f.svc_info_complete in
    let same : flag_byte f ≡ flag f.time_code 0x80 + flag f.cc_data 0x40 + flag f.svc_info 0x20 + n =
    omega arith in
    let u : Upper f.time_code f.cc_data f.svc_info n (flag_byte f) =
    rw same (upper f.time_code f.cc_data f.svc_info n l.most) in
    let s : SameLow (flag_byte f) n = same_low (flag_byte f) n u.low in
    rw (
      bit_back (under x80 (flag_byte f)) f.time_code u.time,
      bit_back (under x40 (flag_byte f)) f.cc_data u.captions,
      bit_back (under x20 (flag_byte f)) f.svc_info u.services,
      bit_back (under x10 (flag_byte f)) f.svc_info_start (s.start ∙ l.start),
      bit_back (under x08 (flag_byte f)) f.svc_info_change (s.change ∙ l.change),
      bit_back (under x04 (flag_byte f)) f.svc_info_complete (s.complete ∙ l.complete),
      s.active ∙ l.active,
      ← active,
    )

-- the seven bytes, whatever stands behind them
module _ (size : ℕ) (rate : Framerate) (f : Flags) (sequence : ℕ) (rest : List ℕ) where
  abbrev p : List ℕ
  p = header_bytes size rate f sequence ++ rest

  pub sequence_back : sequence_in p ≡ sequence
  sequence_back = omega arith

  module _ (rated : known rate ≡ true) where
    pub rate_back : rate_of p ≡ Some rate
    rate_back =
        let small : rate.id ≤ 8 = known_id rate rated in
        let high : (rate.id * 16 + 15) / 16 % 16 ≡ rate.id = omega arith in
        ap from_id high ∙ rate_known rate rated

    pub header_clear : 11 ≤ length p → size ≡ length p → verdict (header_checks p) ≡ clear
    header_clear long same = simp (le-leb 11 (length p) long, eq-eqb size (length p) same, rate_back)
