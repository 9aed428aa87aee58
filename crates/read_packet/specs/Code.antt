-- Follows the code and not the rules: what is known of a packet before its service list is made.
use Rattle.std.specs.Prelude.{List, ℕ, Result}
use Rattle.basis.specs.Check.{read_as, verdict}
use Rattle.basis.specs.declared.refusal.Refused.{Refused}
use Rattle.read_header.specs.Code.{rate_in}
use Rattle.read_header.specs.Header.{flags_in, sequence_in}
use Rattle.read_time_code.specs.TimeCode.{time_code_of}
use Rattle.read_packet.specs.declared.checked.Checked.{Checked}
use Rattle.read_packet.specs.Packet.{time_code_at, captions_at, captions_length, services_at, packet_checks}

-- what is known of an accepted packet before its service list is made
abbrev pub checked_shown : List ℕ → Checked
checked_shown p =
    record {
      framerate = rate_in p;
      time_code = time_code_of p (flags_in p).time_code time_code_at;
      sequence = sequence_in p;
      flags = flags_in p;
      captions = captions_length p;
      captions_at = captions_at p;
      services_at = services_at p;
    }

unfoldable pub checked_read : List ℕ → Result Checked Refused
checked_read p = read_as (verdict (packet_checks p)) (checked_shown p)
