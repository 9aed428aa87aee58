-- Where the parts of a packet stand, as the code finds it: from the flag of the part in front, and its count.
-- Assumes nothing.
use mathlib.Core.Bool.{true, false}
use mathlib.Core.List.{List}
use mathlib.Core.Path.{◌≡◌}
use Prim.Native.Nat.{ℕ, ◌+◌, ◌*◌, ◌%◌}
use native.Mathlib.Omega.{arith}
use Rattle.basis.specs.Bytes.{byte}
use Rattle.read_header.specs.Header.{flags_in}
use Rattle.read_packet.specs.Packet.{captions_at, closing_at, services_at}

module _ (p : List ℕ) where
  pub behind_time : (flags_in p).time_code ≡ true → 12 ≡ captions_at p
  behind_time on = rw on

  pub no_time : (flags_in p).time_code ≡ false → 7 ≡ captions_at p
  no_time off = rw off

  pub behind_captions : (flags_in p).cc_data ≡ true → captions_at p + (2 + 3 * (byte p (captions_at p + 1) % 32)) ≡ services_at p
  behind_captions on = rw on (omega arith)

  pub no_captions : (flags_in p).cc_data ≡ false → captions_at p ≡ services_at p
  no_captions off = rw off (omega arith)

  pub behind_services : (flags_in p).svc_info ≡ true → services_at p + (2 + 7 * (byte p (services_at p + 1) % 16)) ≡ closing_at p
  behind_services on = rw on (omega arith)

  pub no_services : (flags_in p).svc_info ≡ false → services_at p ≡ closing_at p
  no_services off = rw off (omega arith)
