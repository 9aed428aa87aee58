-- Follows the code and not the rules: what reading the header alone gives.
use Rattle.std.specs.Prelude.{List, ℕ, Result, unwrap_or}
use Rattle.basis.specs.Check.{verdict, read_as}
use Rattle.values.specs.Rate.{row}
use Rattle.read_header.specs.declared.header.Header.{Header}
use Rattle.basis.specs.declared.refusal.Refused.{Refused}
use Rattle.read_header.specs.Header.{rate_of, flags_in, sequence_in, header_checks}
use Rattle.values.specs.declared.framerate.Framerate.{Framerate}

-- the rate of a header that is right, which has one
abbrev pub rate_in : List ℕ → Framerate
rate_in p = unwrap_or (rate_of p) (row 0 0 0)

abbrev pub header_of : List ℕ → Header
header_of p = record { framerate = rate_in p; flags = flags_in p; sequence = sequence_in p }

-- what reading the header gives
unfoldable pub header_read : List ℕ → Result Header Refused
header_read p = read_as (verdict (header_checks p)) (header_of p)
