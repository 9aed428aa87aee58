-- A part that may be held, read back: what its flag, its checks and its size come to where it stands,
-- or where nothing does.
-- Assumes nothing.
use mathlib.Core.Bool.{Bool, true, false, cond, ◌&&◌}
use mathlib.Core.List.{List, [], ◌∷◌, ◌++◌}
use mathlib.Core.Path.{◌≡◌, refl, ap}
use Prim.Native.Nat.{ℕ, ◌+◌, ◌≤◌}
use lib.Dec.{eqb}
use lib.ListN.{drop, length}
use Rattle.basis.specs.Check.{WriteVerdict, answer, clear, size_when, verdict, when}
use Rattle.values.specs.Layout.{time_code_id, section_length, time_code_size}
use Rattle.values_time.specs.Time.{time_bytes, time_present, time_write_checks}
use Rattle.service_list.proofs.SectionBack.{named}
use Rattle.service_list.proofs.SectionWrites.{value_done}
use Rattle.service_list.specs.SectionBack.{Ready, all_of_three, before_field_two, names_field_two}
use Rattle.service_list.specs.ServiceList.{list_absent, list_present}
use Rattle.service_list.specs.SectionWriting.{counted, section_bytes, value_checks}
use Rattle.service_list.specs.Code.{value_answer}
use Rattle.read_time_code.specs.TimeCode.{time_code_checks, time_code_of}
use Rattle.read_services.proofs.ServicesAlone.{FlagsOf}
use Rattle.read_services.specs.Services.{services_checks, services_of, services_size}
use Rattle.writer.specs.Writer.{held_time}
use Rattle.theorem_packet.proofs.SectionsBack.{list_value, section_size, services_verdict, time_clear, time_value}
use Rattle.theorem_packet.specs.RoundTrip.{list_back}
use Rattle.service_list.specs.declared.list.ServiceInfo.{ServiceInfo}
use Rattle.values.specs.declared.flags.Flags.{Flags}
use Rattle.values_time.specs.declared.time.TimeCode.{TimeCode}

-- the time code
pub record TimeHere (p : List ℕ) (i : ℕ) (present : Bool) (t : TimeCode) : Type 0 where
  pub right : verdict (when present (time_code_checks p i)) ≡ clear
  pub shown : time_code_of p present i ≡ held_time (record { present = present; time_code = t })

pub time_here : (p : List ℕ) (i : ℕ) (present : Bool) (t : TimeCode) (rest : List ℕ)
    → drop i p ≡ cond present (time_code_id ∷ time_bytes t) [] ++ rest
    → verdict (when present (time_write_checks t)) ≡ clear → i + size_when present time_code_size ≤ length p → TimeHere p i present t
time_here p i true t rest h right fits =
    record { right = time_clear p i t rest h right fits; shown = ap time_present (time_value p i t rest h right) }
time_here p i false t rest h right fits = record { right = refl; shown = refl }

-- the list: what writing asks of it is what reading it back asks
ready : (l : ServiceInfo) → verdict (value_checks l) ≡ clear → Ready l
unfolding value_answer
ready l right =
    let both = value_done l (ap (λ (v : WriteVerdict). eqb (answer v 0).number 0) right) in
    record { count = both.0; numbers = both.1 }

pub record ServicesHere (p : List ℕ) (i : ℕ) (f : Flags) (present : Bool) (l : ServiceInfo) : Type 0 where
  pub answered : verdict (when present (services_checks p f i))
      ≡ named (present && names_field_two (counted l)) (i + section_length (before_field_two (counted l)))
  pub shown : (present ≡ true → all_of_three (counted l) ≡ true)
      → services_of p present i ≡ cond present (list_present (list_back l)) list_absent
  pub size : size_when present (services_size p i) ≡ size_when present (section_length l.count)

pub services_here : (p : List ℕ) (i : ℕ) (f : Flags) (present : Bool) (l : ServiceInfo) (rest : List ℕ)
    → (present ≡ true → FlagsOf f l)
    → drop i p ≡ cond present (section_bytes l) [] ++ rest → verdict (when present (value_checks l)) ≡ clear
    → i + size_when present (section_length l.count) ≤ length p → ServicesHere p i f present l
services_here p i f true l rest flags h right fits =
    let r : Ready l = ready l right in
    record {
      answered = services_verdict p i l rest h r f (flags refl) fits;
      shown = λ languages. ap list_present (list_value p i l rest h r (languages refl));
      size = section_size p i l rest h r;
    }
services_here p i f false l rest flags h right fits = record { answered = refl; shown = λ languages. refl; size = refl }
