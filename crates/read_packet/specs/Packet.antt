-- Rules 2 to 9, in their order: the places in a packet, and its checks.
use Rattle.std.specs.Prelude.{List, ◌++◌, ℕ, ◌+◌, length}
use Rattle.basis.specs.Check.{Check, when, size_when}
use Rattle.values.specs.Layout.{header_size, time_code_size}
use Rattle.read_captions.specs.Captions.{captions_checks, captions_size}
use Rattle.read_closing.specs.Closing.{closing_checks, footer_from}
use Rattle.read_header.specs.Header.{header_checks, flags_in, sequence_in}
use Rattle.read_services.specs.Services.{services_checks, services_size}
use Rattle.read_time_code.specs.TimeCode.{time_code_checks}

-- i, as it moves on: behind the header, the time code, the captions, the services
abbrev pub time_code_at : ℕ
time_code_at = header_size

abbrev pub captions_at : List ℕ → ℕ
captions_at p = time_code_at + size_when (flags_in p).time_code time_code_size

-- how many bytes are handed out, 0 without a caption section
abbrev pub captions_length : List ℕ → ℕ
captions_length p = size_when (flags_in p).cc_data (captions_size p (captions_at p))

abbrev pub services_at : List ℕ → ℕ
services_at p = captions_at p + captions_length p

abbrev pub closing_at : List ℕ → ℕ
closing_at p = services_at p + size_when (flags_in p).svc_info (services_size p (services_at p))

-- where the footer stands
abbrev pub footer_at : List ℕ → ℕ
footer_at p = footer_from (length p) p (closing_at p)

-- rules 2 to 9, one after the other
unfoldable pub packet_checks : List ℕ → List Check
packet_checks p =
    header_checks p
    ++ (when (flags_in p).time_code (time_code_checks p time_code_at)
    ++ (when (flags_in p).cc_data (captions_checks p (captions_at p))
    ++ (when (flags_in p).svc_info (services_checks p (flags_in p) (services_at p))
    ++ closing_checks p (sequence_in p) (closing_at p))))
