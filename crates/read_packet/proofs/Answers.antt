-- Which answers rules 2 to 9 give, and where: 1 to 9 and nothing else, so that 11 is rule 1's alone; beside 1 the place is the
-- packet's size, beside the others one of its bytes.
-- Assumes nothing.
use mathlib.Core.Bool.{true, false}
use mathlib.Core.List.{List, ◌++◌}
use mathlib.Core.Path.{◌≡◌}
use Prim.Native.Nat.{ℕ, ◌≤◌}
use native.Mathlib.Omega.{arith}
use borrow.Author.Tests.{leb-true}
use lib.Dec.{eqb}
use lib.ListN.{length}
use Rattle.basis.proofs.Holds as Holds
use Rattle.basis.proofs.Holds.{Inside, behind, both, where_there}
use Rattle.basis.proofs.Verdicts.{kept_at_lem}
use Rattle.basis.specs.Check.{Check, answer, clear, verdict, when}
use Rattle.values.specs.Layout.{least_size}
use Rattle.read_captions.proofs.CaptionsReads.{captions_inside}
use Rattle.read_captions.specs.Captions.{captions_checks}
use Rattle.read_closing.proofs.ClosingPlaces.{closing_inside}
use Rattle.read_closing.specs.Closing.{closing_checks}
use Rattle.read_header.proofs.HeaderReads.{header_inside}
use Rattle.read_header.specs.Header.{flags_in, header_checks, sequence_in}
use Rattle.read_services.proofs.ServicesReads.{services_inside}
use Rattle.read_services.specs.Services.{services_checks}
use Rattle.read_time_code.proofs.TimeCodeReads.{time_code_inside}
use Rattle.read_time_code.specs.TimeCode.{time_code_checks}
use Rattle.read_packet.specs.Packet.{time_code_at, captions_at, closing_at, packet_checks, services_at}

-- a packet whose header is kept has a byte 4
header_long : (p : List ℕ) → verdict (header_checks p) ≡ clear → least_size ≤ length p
header_long p h = leb-true _ _ (kept_at_lem 0 (header_checks p) h)

pub packet_inside : (p : List ℕ) → Inside (length p) (packet_checks p)
unfolding packet_checks
packet_inside p =
    let time : List Check = when (flags_in p).time_code (time_code_checks p time_code_at) in
    let captions : List Check = when (flags_in p).cc_data (captions_checks p (captions_at p)) in
    let services : List Check = when (flags_in p).svc_info (services_checks p (flags_in p) (services_at p)) in
    let closing : List Check = closing_checks p (sequence_in p) (closing_at p) in
    behind (header_checks p) (time ++ (captions ++ (services ++ closing))) (header_inside p)
    (λ kept.
    let five : 5 ≤ length p = omega (arith, header_long p kept) in
    both time (captions ++ (services ++ closing)) (where_there (flags_in p).time_code (time_code_inside p time_code_at))
    (both captions (services ++ closing) (where_there (flags_in p).cc_data (captions_inside p (captions_at p)))
    (both services closing (where_there (flags_in p).svc_info (services_inside p (flags_in p) (services_at p) five))
    (closing_inside p (sequence_in p) (closing_at p)))))

pub not_eleven : (p : List ℕ) (count : ℕ) → eqb (answer (verdict (packet_checks p)) count).number 11 ≡ false
not_eleven p count = Holds.not_eleven true (length p) (verdict (packet_checks p)) count (packet_inside p).it
