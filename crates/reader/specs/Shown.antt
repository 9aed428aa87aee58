-- What a new reader shows, and what an accepted packet does.
use Rattle.std.specs.Prelude.{Bool, false, List, ℕ, Option, None}
use Rattle.values_time.specs.Time.{time_absent}
use Rattle.service_list.specs.ServiceList.{list_absent}
use Rattle.read_header.specs.Header.{rate_of, flags_in, sequence_in}
use Rattle.read_time_code.specs.TimeCode.{time_code_of}
use Rattle.read_services.specs.Services.{services_of}
use Rattle.read_packet.specs.Packet.{services_at, time_code_at}
use Rattle.reader.specs.declared.parser.CDPParser.{CDPParser}
use Rattle.service_list.specs.declared.list.MaybeServiceInfo.{MaybeServiceInfo}
use Rattle.values.specs.declared.framerate.Framerate.{Framerate}
use Rattle.values_time.specs.declared.time.MaybeTimeCode.{MaybeTimeCode}

-- rate, time code, sequence, service list and caption-active mark
abbrev pub state : Option Framerate → MaybeTimeCode → ℕ → MaybeServiceInfo → Bool → CDPParser
state rate time sequence services active =
    record { framerate = rate; time_code = time; sequence = sequence; service_info = services; caption_active = active }

-- a list put into a state: all else is as it was
abbrev pub with_services : MaybeServiceInfo → CDPParser → CDPParser
with_services services s = state s.framerate s.time_code s.sequence services s.caption_active

-- a new reader: all absent, sequence 0, the caption-active mark off
abbrev pub fresh_reader : CDPParser
fresh_reader = state None time_absent 0 list_absent false

-- what an accepted packet shows: each value absent where its section is, and the mark from flag 02 of byte 4
unfoldable pub shown_by : List ℕ → CDPParser
shown_by p =
    state (rate_of p)
    (time_code_of p (flags_in p).time_code time_code_at)
    (sequence_in p)
    (services_of p (flags_in p).svc_info (services_at p))
    (flags_in p).caption_service_active
