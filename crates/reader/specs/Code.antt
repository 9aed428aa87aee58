-- Follows the code and not the rules: what reading a packet gives with no state and no buffer.
use Rattle.std.specs.Prelude.{List, ℕ, Result}
use Rattle.basis.specs.Check.{read_as, verdict}
use Rattle.basis.specs.declared.refusal.Refused.{Refused}
use Rattle.read_packet.specs.Packet.{captions_length, captions_at, packet_checks}
use Rattle.reader.specs.declared.packet_read.PacketRead.{PacketRead}
use Rattle.reader.specs.Shown.{shown_by}

-- what an accepted packet makes a reader show, and its captions: how many bytes are handed out, and where they stand
abbrev pub stateless_shown : List ℕ → PacketRead
stateless_shown p = record { shown = shown_by p; captions = captions_length p; captions_at = captions_at p }

-- what reading a packet gives, with no state and no buffer
unfoldable pub packet_read : List ℕ → Result PacketRead Refused
packet_read p = read_as (verdict (packet_checks p)) (stateless_shown p)
