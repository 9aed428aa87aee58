-- Follows the code and not the rules: what testing the caption section alone gives.
use Rattle.std.specs.Prelude.{Bool, List, ℕ, Result}
use Rattle.basis.specs.Check.{when, size_when, verdict}
use Rattle.basis.specs.Code.{tested}
use Rattle.basis.specs.declared.refusal.Refused.{Refused}
use Rattle.read_captions.specs.Captions.{captions_size, captions_checks}

-- what testing the section gives; its size is how far i moves on, and how many bytes are handed out
unfoldable pub captions_tested : List ℕ → Bool → ℕ → Result ℕ Refused
captions_tested p present i = tested (verdict (when present (captions_checks p i))) (size_when present (captions_size p i))
