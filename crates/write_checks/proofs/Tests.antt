-- Whether a packet can be written, test by test: what the definition answers where a test is the first that fails, and
-- what holds where none does.
-- Assumes nothing.
use mathlib.Core.Path.{◌≡◌, ◌∙◌, sym, refl, ap}
use mathlib.Core.Bool.{Bool, true, false, false≢true, true≢false}
use mathlib.Core.List.{List, append-nil, ◌++◌}
use Prim.Native.Nat.{ℕ, ◌+◌, ◌%◌, ◌≤◌, ◌<◌}
use native.Mathlib.Omega.{arith}
use borrow.Author.Tests.{eq-eqb, ne_eqb, le-leb, lt-leb, leb-true, leb-false, eqb-true}
use lib.Dec.{eqb, leb}
use Rattle.std.specs.Prelude.{Result, Ok, Err, None, is_ok}
use Rattle.std.specs.Result.{result_unwrap_or}
use Rattle.basis.proofs.Bools.{and_left, and_right}
use Rattle.values.proofs.Rates.{no_row}
use Rattle.basis.proofs.Verdicts.{append_first, append_second, done_clear, done_value, kept_at_lem, kept_from}
use Rattle.basis.specs.Answer.{done, refused}
use Rattle.basis.specs.declared.refusal.Refusal.{Refusal}
use Rattle.basis.specs.declared.refusal.Refusal.TheVariants.{UnknownFramerate, WrongCaptionRun}
use Rattle.basis.specs.Check.{WriteCheck, WriteVerdict, answer, clear, broken, if_clear, size_when, verdict, when, write_answer, write_as}
use Rattle.values.specs.Rate.{from_id, known, same_numbers}
use Rattle.values_time.specs.Time.{time_bytes, time_write_checks, time_written}
use Rattle.service_list.specs.ServiceList.{list_absent}
use Rattle.service_list.specs.SectionWriting.{value_checks}
use Rattle.write_checks.specs.Checks.{
  full_triplets,
  packet_write_checks,
  packet_length,
  services_write_checks,
  services_length,
  time_code_write_checks,
  time_code_length,
}
use Rattle.write_checks.specs.Code.{
  held_time_bytes,
  others_write_tested,
  time_code_write_tested,
  with_length,
  without_length,
  zeros,
}
use Rattle.write_checks.specs.declared.checks.WriteTested.{WriteTested}
use Rattle.service_list.specs.declared.list.MaybeServiceInfo.{MaybeServiceInfo}
use Rattle.service_list.specs.declared.list.ServiceInfo.{ServiceInfo}
use Rattle.basis.specs.declared.answer.Answer.{Answer}
use Rattle.values.specs.declared.framerate.Framerate.{Framerate}
use Rattle.values.specs.Layout.{footer_size, header_size, section_head_size, section_length, time_code_size}
use Rattle.values_time.specs.declared.time.MaybeTimeCode.{MaybeTimeCode}

-- an answer, a length and four bytes
abbrev measured : Answer → ℕ → List ℕ → WriteTested
measured a length bytes = record { answer = a; length = length; time_code = bytes }

-- beside a verdict: nothing on a refusal, both values with 0
refused_alone : (v : WriteVerdict) (length : ℕ) (bytes : List ℕ) → eqb (answer v 0).number 0 ≡ false
    → without_length (answer v 0) ≡ with_length v length bytes
refused_alone clear length bytes h = absurd (true≢false h)
refused_alone (broken rule) length bytes h = refl

refused_with : (v : WriteVerdict) (bytes : List ℕ) (length : ℕ) (r : Refusal) → write_as v bytes ≡ Err r
    → without_length (refused r) ≡ with_length v length bytes
refused_with clear bytes length r h = absurd (true≢false (ap is_ok h))
refused_with (broken rule) bytes length r h =
    ap (λ (s : Result (List ℕ) Refusal). without_length (write_answer s 0)) (sym h)

done_with : (v : WriteVerdict) (bytes : List ℕ) (length : ℕ) (got : List ℕ) → write_as v bytes ≡ Ok got
    → measured (done 0) length got ≡ with_length v length bytes
done_with clear bytes length got h =
    ap (λ (s : Result (List ℕ) Refusal). measured (done 0) length (result_unwrap_or s bytes)) (sym h)
done_with (broken rule) bytes length got h = absurd (false≢true (ap is_ok h))

-- a time code that may be held: its own checks decide where it is, and its size and its bytes go with 0
module _ (time : MaybeTimeCode) where
  pub no_time : time.present ≡ false → without_length (done 0) ≡ time_code_write_tested time
  unfolding time_code_write_tested
  no_time a = simp a

  module _ (held : time.present ≡ true) where
    pub bad_time : (r : Refusal) → time_written time.time_code ≡ Err r → without_length (refused r) ≡ time_code_write_tested time
    unfolding time_written time_code_write_tested
    bad_time r h =
        simp held
        (refused_with (verdict (time_write_checks time.time_code)) (time_bytes time.time_code) time_code_size r h)

    pub good_time : (bytes : List ℕ) → time_written time.time_code ≡ Ok bytes
        → measured (done 0) time_code_size bytes ≡ time_code_write_tested time
    unfolding time_written time_code_write_tested
    good_time bytes h =
        simp held
        (done_with (verdict (time_write_checks time.time_code)) (time_bytes time.time_code) time_code_size bytes h)

-- a held list that can be written counts up to 15, so that its section has 107 bytes at most
services_most : (present : Bool) (l : ServiceInfo) → verdict (when present (value_checks l)) ≡ clear
    → size_when present (section_length l.count) ≤ 107
services_most true l h =
    let few : l.count ≤ 15 = leb-true _ _ (kept_at_lem 0 (value_checks l) h) in
    omega arith
services_most false l h = omega arith

time_most : (present : Bool) → size_when present time_code_size ≤ time_code_size
time_most true = omega arith
time_most false = omega arith

services_held_most : (services : MaybeServiceInfo) → verdict (services_write_checks services) ≡ clear → services_length services ≤ 107
services_held_most services h = services_most services.present services.service_info h

pub time_code_most : (time : MaybeTimeCode) → time_code_length time ≤ time_code_size
time_code_most time = time_most time.present

-- so what testing it gives is no longer, whatever it answers
clear_most : (v : WriteVerdict) (length : ℕ) → if_clear v length 0 ≤ length
clear_most clear length = omega arith
clear_most (broken rule) length = omega arith

pub tested_most : (t : WriteTested) (time : MaybeTimeCode) → t ≡ time_code_write_tested time → t.length ≤ time_code_size
unfolding time_code_write_tested
tested_most t time e =
    let most : if_clear (verdict (time_code_write_checks time)) (time_code_length time) 0 ≤ time_code_length time =
    clear_most (verdict (time_code_write_checks time)) (time_code_length time) in
    rw e (omega (arith, most, time_code_most time))

-- the length and the bytes beside 0
pub record TimeMade (t : WriteTested) (time : MaybeTimeCode) : Type 0 where
  pub clears : verdict (time_code_write_checks time) ≡ clear
  pub answers : t.answer ≡ done 0
  pub size : t.length ≡ time_code_length time
  pub bytes : t.time_code ≡ held_time_bytes time

pub time_made : (t : WriteTested) (time : MaybeTimeCode) → t ≡ time_code_write_tested time → eqb t.answer.number 0 ≡ true
    → TimeMade t time
unfolding time_code_write_tested
time_made t time e h =
    let v : WriteVerdict = verdict (time_code_write_checks time) in
    let right : v ≡ clear = done_clear v 0 (rw e at h) in
    let made : t ≡ with_length clear (time_code_length time) (held_time_bytes time) =
    e ∙ ap (λ (u : WriteVerdict). with_length u (time_code_length time) (held_time_bytes time)) right in
    record {
      clears = right;
      answers = ap (λ (u : WriteTested). u.answer) made;
      size = ap (λ (u : WriteTested). u.length) made;
      bytes = ap (λ (u : WriteTested). u.time_code) made;
    }

above_eight : (id : ℕ) → 8 < id → None ≡ from_id id
above_eight id h =
    no_row id (λ e. omega arith) (λ e. omega arith) (λ e. omega arith) (λ e. omega arith) (λ e. omega arith)
    (λ e. omega arith) (λ e. omega arith) (λ e. omega arith)

-- an id that names a rate is 8 at most
named_id : (rate : Framerate) (small : Bool) → leb rate.id 8 ≡ small → known rate ≡ true → rate.id ≤ 8
named_id rate true e h = leb-true _ _ e
named_id rate false e h =
    absurd (false≢true (ap (same_numbers rate) (above_eight rate.id (leb-false _ _ e)) ∙ h))

pub known_id : (rate : Framerate) → known rate ≡ true → rate.id ≤ 8
known_id rate h = named_id rate (leb rate.id 8) refl h

-- the packet without its list
module _ (rate : Framerate) (time : MaybeTimeCode) (run : ℕ) where
  pub other_rate : known rate ≡ false → without_length (refused UnknownFramerate) ≡ others_write_tested rate time run
  unfolding others_write_tested
  other_rate a = simp a

  module _ (rated : known rate ≡ true) where
    pub run_long : 93 < run → without_length (refused WrongCaptionRun) ≡ others_write_tested rate time run
    unfolding others_write_tested
    run_long a = simp (rated, lt-leb _ _ a)

    module _ (short : run ≤ 93) where
      pub run_cut : (run % 3 ≡ 0 → ⊥) → without_length (refused WrongCaptionRun) ≡ others_write_tested rate time run
      unfolding others_write_tested
      run_cut a = simp (rated, le-leb _ _ short, ne_eqb _ _ a)

      module _ (whole : run % 3 ≡ 0) where
        as_time : verdict (time_code_write_checks time) ≡ verdict (packet_write_checks rate time list_absent run)
        as_time =
            simp (rated, le-leb _ _ short, eq-eqb _ _ whole) (ap verdict (sym (append-nil (time_code_write_checks time))))

        pub time_refused : eqb (time_code_write_tested time).answer.number 0 ≡ false
            → without_length (time_code_write_tested time).answer ≡ others_write_tested rate time run
        unfolding others_write_tested time_code_write_tested
        time_refused h =
            refused_alone (verdict (time_code_write_checks time)) (packet_length time list_absent run) (held_time_bytes time) h
            ∙ ap (λ (u : WriteVerdict). with_length u (packet_length time list_absent run) (held_time_bytes time)) as_time

        -- the length as it is added up
        pub all_right : (t : WriteTested) → TimeMade t time
            → measured t.answer (header_size + t.length + (section_head_size + run) + footer_size) t.time_code
            ≡ others_write_tested rate time run
        unfolding others_write_tested
        all_right t made =
            let long : header_size + t.length + (section_head_size + run) + footer_size ≡ packet_length time list_absent run =
            omega (arith, made.size) in
            rw (made.answers, long, made.bytes)
            (ap (λ (u : WriteVerdict). with_length u (packet_length time list_absent run) (held_time_bytes time))
            (sym made.clears ∙ as_time))

  -- where the test gives 0, the verdict is clear, and length and bytes stand beside it
  pub others_right : (t : WriteTested) → t ≡ others_write_tested rate time run → eqb t.answer.number 0 ≡ true
      → (verdict (packet_write_checks rate time list_absent run) ≡ clear)
      × (t.length ≡ packet_length time list_absent run)
      × (t.time_code ≡ held_time_bytes time)
  unfolding others_write_tested
  others_right t e h =
      let v : WriteVerdict = verdict (packet_write_checks rate time list_absent run) in
      let h0 = rw e at h in (
        done_clear v 0 h0,
        ap (λ (u : WriteTested). u.length) e ∙ done_value v 0 (packet_length time list_absent run) 0 h0,
        ap (λ (u : WriteTested). u.time_code) e ∙ done_value v 0 (held_time_bytes time) zeros h0,
      )

-- what holds of a packet that can be written
pub record Accepted (rate : Framerate) (time : MaybeTimeCode) (services : MaybeServiceInfo) (run : ℕ) : Type 0 where
  pub rated : known rate ≡ true
  pub short : run ≤ 93
  pub whole : run % 3 ≡ 0
  pub timed : verdict (time_code_write_checks time) ≡ clear
  pub served : verdict (services_write_checks services) ≡ clear

pub accepted : (rate : Framerate) (time : MaybeTimeCode) (services : MaybeServiceInfo) (run : ℕ)
    → verdict (packet_write_checks rate time services run) ≡ clear → Accepted rate time services run
accepted rate time services run h =
    let checks : List WriteCheck = packet_write_checks rate time services run in
    let full : full_triplets run ≡ true = kept_at_lem 1 checks h in
    let parts : verdict (time_code_write_checks time ++ services_write_checks services) ≡ clear = kept_from 2 checks h in
    record {
      rated = kept_at_lem 0 checks h;
      short = leb-true _ _ (and_left _ _ full);
      whole = eqb-true _ _ (and_right (leb run 93) _ full);
      timed = append_first (time_code_write_checks time) (services_write_checks services) parts;
      served = append_second (time_code_write_checks time) (services_write_checks services) parts;
    }

-- The longest packet that is written has 218 bytes.
pub length_most : (rate : Framerate) (time : MaybeTimeCode) (services : MaybeServiceInfo) (run : ℕ)
    → verdict (packet_write_checks rate time services run) ≡ clear → packet_length time services run ≤ 218
length_most rate time services run h =
    let a : Accepted rate time services run = accepted rate time services run h in
    omega (arith, a.short, time_code_most time, services_held_most services a.served)
