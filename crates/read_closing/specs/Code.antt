-- Follows the code and not the rules: what testing the footer, and all that stands behind the sections, gives.
use Rattle.std.specs.Prelude.{List, ℕ, Result}
use Rattle.basis.specs.Check.{verdict}
use Rattle.basis.specs.Code.{outcome}
use Rattle.basis.specs.declared.refusal.Refused.{Refused}
use Rattle.read_closing.specs.Closing.{footer_checks, closing_checks}

unfoldable pub footer_read : List ℕ → ℕ → ℕ → Result Unit Refused
footer_read p sequence i = outcome (verdict (footer_checks p sequence i))

unfoldable pub closing_read : List ℕ → ℕ → ℕ → Result Unit Refused
closing_read p sequence i = outcome (verdict (closing_checks p sequence i))
