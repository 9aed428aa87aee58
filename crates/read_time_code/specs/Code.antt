-- Follows the code and not the rules: what reading the time code's section alone gives.
use Rattle.std.specs.Prelude.{Bool, List, [], ◌∷◌, ℕ, Result}
use Rattle.basis.specs.Check.{when, size_when, verdict, read_answer, read_as}
use Rattle.basis.specs.declared.answer.Answer.{Answer}
use Rattle.basis.specs.declared.refusal.Refused.{Refused}
use Rattle.read_time_code.specs.declared.time_code.TimeCodeSection.{TimeCodeSection}
use Rattle.values.specs.Layout.{time_code_size}
use Rattle.read_time_code.specs.TimeCode.{of_four, time_code_checks, time_code_of}

abbrev pub four_behind : List ℕ → ℕ → List ℕ
four_behind p i = of_four (λ (a b c d : ℕ). a ∷ b ∷ c ∷ d ∷ []) p i

-- what the section gives of a packet without refusal: no time code where it is absent; its size is how far i moves on
abbrev pub section_of : List ℕ → Bool → ℕ → TimeCodeSection
section_of p present i = record { time_code = time_code_of p present i; size = size_when present time_code_size }

-- what reading the section gives; a refusal gives no time code
unfoldable pub time_code_read : List ℕ → Bool → ℕ → Result TimeCodeSection Refused
time_code_read p present i = read_as (verdict (when present (time_code_checks p i))) (section_of p present i)

-- its answer in the table; its size is no value of it
abbrev pub time_code_answer : List ℕ → Bool → ℕ → Answer
time_code_answer p present i = read_answer (time_code_read p present i) 0
