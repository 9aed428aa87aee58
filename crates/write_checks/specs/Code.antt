-- Follows the code and not the rules: what testing a packet without its services gives, and its time code by itself.
use Rattle.std.specs.Prelude.{cond, List, [], ◌∷◌, ℕ}
use Rattle.basis.specs.Check.{WriteVerdict, verdict, answer, if_clear}
use Rattle.values_time.specs.Time.{time_bytes}
use Rattle.service_list.specs.ServiceList.{list_absent}
use Rattle.write_checks.specs.Checks.{packet_length, packet_write_checks, time_code_length, time_code_write_checks}
use Rattle.basis.specs.declared.answer.Answer.{Answer}
use Rattle.values_time.specs.declared.time.MaybeTimeCode.{MaybeTimeCode}
use Rattle.values.specs.declared.framerate.Framerate.{Framerate}
use Rattle.write_checks.specs.declared.checks.WriteTested.{WriteTested}

-- beside a refusal, and where no time code is held
abbrev pub zeros : List ℕ
zeros = 0 ∷ 0 ∷ 0 ∷ 0 ∷ []

-- the four bytes of a time code that is held
abbrev pub held_time_bytes : MaybeTimeCode → List ℕ
held_time_bytes time = cond time.present (time_bytes time.time_code) zeros

-- the answer, and a length and four bytes beside it; no length beside a refusal, and zeros
abbrev pub with_length : WriteVerdict → ℕ → List ℕ → WriteTested
with_length v length bytes =
    record { answer = answer v 0; length = if_clear v length 0; time_code = if_clear v bytes zeros }

abbrev pub without_length : Answer → WriteTested
without_length a = record { answer = a; length = 0; time_code = zeros }

unfoldable pub time_code_write_tested : MaybeTimeCode → WriteTested
time_code_write_tested time = with_length (verdict (time_code_write_checks time)) (time_code_length time) (held_time_bytes time)

-- W1 to W6: a packet that has no list
unfoldable pub others_write_tested : Framerate → MaybeTimeCode → ℕ → WriteTested
others_write_tested rate time run =
    with_length (verdict (packet_write_checks rate time list_absent run)) (packet_length time list_absent run) (held_time_bytes time)
