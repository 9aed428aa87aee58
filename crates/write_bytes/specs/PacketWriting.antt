-- Writing a packet: its bytes, and what is left in the lent buffer.
use Rattle.std.specs.Prelude.{true, cond, ◌&&◌, List, [], ◌∷◌, ◌++◌, ℕ, ◌+◌, ◌*◌, ◌/◌, length}
use Rattle.basis.specs.Bytes.{over}
use Rattle.basis.specs.Check.{verdict, answer, if_clear, room_check}
use Rattle.values.specs.Checksum.{total, negative}
use Rattle.values.specs.Flags.{flag_byte}
use Rattle.values.specs.Layout.{time_code_id, captions_id, footer_id, triplet_size}
use Rattle.values.specs.Sequence.{sequence_bytes}
use Rattle.values_time.specs.Time.{time_bytes}
use Rattle.basis.specs.Writing.{Written}
use Rattle.service_list.specs.SectionWriting.{section_bytes}
use Rattle.write_checks.specs.Checks.{packet_write_checks, packet_length}
use Rattle.service_list.specs.declared.list.MaybeServiceInfo.{MaybeServiceInfo}
use Rattle.values.specs.declared.flags.Flags.{Flags}
use Rattle.values.specs.declared.framerate.Framerate.{Framerate}
use Rattle.values_time.specs.declared.time.MaybeTimeCode.{MaybeTimeCode}

-- 40 is always set, with 02 and 01; 80 and 20 tell what is held, and the list's three flags stand in 10, 08 and 04
abbrev pub held_flags : MaybeTimeCode → MaybeServiceInfo → Flags
held_flags time services =
    record {
      time_code = time.present;
      cc_data = true;
      svc_info = services.present;
      svc_info_start = services.present && services.service_info.start;
      svc_info_change = services.present && services.service_info.change;
      svc_info_complete = services.present && services.service_info.complete;
      caption_service_active = true;
    }

-- header: 96 69, the packet's size, the rate id above four ones, the flags, the sequence
abbrev pub header_bytes : ℕ → Framerate → Flags → ℕ → List ℕ
header_bytes size rate flags sequence =
    0x96 ∷ 0x69 ∷ size ∷ (rate.id * 16 + 0x0F) ∷ flag_byte flags ∷ sequence_bytes sequence

-- time code, if held
abbrev pub time_code_bytes : MaybeTimeCode → List ℕ
time_code_bytes time = cond time.present (time_code_id ∷ time_bytes time.time_code) []

-- captions, always: the number of triplets below E0, and the run as it is
abbrev pub captions_bytes : List ℕ → List ℕ
captions_bytes captions = captions_id ∷ (0xE0 + length captions / triplet_size) ∷ captions

-- services, if held
abbrev pub services_bytes : MaybeServiceInfo → List ℕ
services_bytes services = cond services.present (section_bytes services.service_info) []

-- footer: 74 and the sequence again
abbrev pub footer_bytes : ℕ → List ℕ
footer_bytes sequence = footer_id ∷ sequence_bytes sequence

-- all bytes but the checksum
abbrev pub summed_bytes : Framerate → ℕ → MaybeTimeCode → MaybeServiceInfo → List ℕ → List ℕ
summed_bytes rate sequence time services captions =
    header_bytes (packet_length time services (length captions)) rate (held_flags time services) sequence
    ++ time_code_bytes time
    ++ captions_bytes captions
    ++ services_bytes services
    ++ footer_bytes sequence

-- and the byte that brings their sum to 0
unfoldable pub packet_bytes : Framerate → ℕ → MaybeTimeCode → MaybeServiceInfo → List ℕ → List ℕ
packet_bytes rate sequence time services captions =
    let bytes = summed_bytes rate sequence time services captions in
    bytes ++ negative (total bytes) ∷ []

-- what writing a packet leaves: room is tested last; on 0 the bytes past the packet stay, beside a refusal all of them
unfoldable pub packet_written : Framerate → ℕ → MaybeTimeCode → MaybeServiceInfo → List ℕ → List ℕ → Written
packet_written rate sequence time services captions buffer =
    let run = length captions in
    let v = verdict (packet_write_checks rate time services run ++ room_check (packet_length time services run) (length buffer) ∷ []) in
    record {
      answer = answer v (packet_length time services run);
      buffer = if_clear v (over 0 (packet_bytes rate sequence time services captions) buffer) buffer;
    }
