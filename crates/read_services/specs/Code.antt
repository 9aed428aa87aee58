-- Follows the code and not the rules: what testing the service section alone gives.
use Rattle.std.specs.Prelude.{List, ℕ, Result}
use Rattle.basis.specs.Check.{when, size_when, verdict}
use Rattle.basis.specs.Code.{tested}
use Rattle.basis.specs.declared.refusal.Refused.{Refused}
use Rattle.values.specs.declared.flags.Flags.{Flags}
use Rattle.read_services.specs.Services.{services_size, services_checks}

-- what testing the section gives; its size is how far i moves on
unfoldable pub services_tested : List ℕ → Flags → ℕ → Result ℕ Refused
services_tested p f i = tested (verdict (when f.svc_info (services_checks p f i))) (size_when f.svc_info (services_size p i))
