-- Reading a time code, test by test: what the definition gives where a test is the first that fails, and where none does;
-- and where the place of what is refused stands.
-- Assumes nothing.
use mathlib.Core.Bool.{false}
use mathlib.Core.Path.{◌≡◌, ap, refl, sym}
use Prim.Native.Nat.{ℕ, ◌/◌, ◌%◌, ◌≤◌}
use borrow.Author.Tests.{eq-eqb, ne_eqb}
use Rattle.std.specs.Prelude.{Ok, Err}
use Rattle.basis.proofs.Holds.{Within, fixed, none, place_most}
use Rattle.basis.proofs.Readings.{place_read}
use Rattle.basis.specs.declared.refusal.Refusal.TheVariants.{InvalidFixedBits}
use Rattle.basis.specs.Check.{Verdict, read_place, refused_at, verdict}
use Rattle.basis.specs.declared.refusal.Refused.{Refused}
use Rattle.values_time.specs.Time.{time_checks, time_of, time_read}

-- every refusal has one of the four bytes as its place
pub time_within : (h m s f : ℕ) → Within 4 (time_checks h m s f)
time_within h m s f = fixed refl (fixed refl (fixed refl none))

pub time_near : (h m s f : ℕ) → read_place (time_read h m s f) ≤ 4
unfolding time_read
time_near h m s f =
    let v : Verdict = verdict (time_checks h m s f) in
    rw (place_read v (time_of h m s f)) (place_most false 4 v (time_within h m s f).it)

-- so is that of a refusal that was given
pub time_near_refused : (h m s f : ℕ) (r : Refused) → time_read h m s f ≡ Err r → r.place ≤ 4
time_near_refused h m s f r e = rw (sym (ap read_place e)) (time_near h m s f)

module _ (h m s f : ℕ) where
  pub hours_wrong : (h / 64 % 4 ≡ 3 → ⊥) → Err (refused_at InvalidFixedBits 0) ≡ time_read h m s f
  unfolding time_read
  hours_wrong a = simp (ne_eqb _ _ a)

  pub minutes_wrong : h / 64 % 4 ≡ 3 → (m / 128 % 2 ≡ 1 → ⊥) → Err (refused_at InvalidFixedBits 1) ≡ time_read h m s f
  unfolding time_read
  minutes_wrong a b = simp (eq-eqb _ _ a, ne_eqb _ _ b)

  pub frames_wrong : h / 64 % 4 ≡ 3 → m / 128 % 2 ≡ 1 → (f / 64 % 2 ≡ 0 → ⊥)
      → Err (refused_at InvalidFixedBits 3) ≡ time_read h m s f
  unfolding time_read
  frames_wrong a b d = simp (eq-eqb _ _ a, eq-eqb _ _ b, ne_eqb _ _ d)

  pub all_right : h / 64 % 4 ≡ 3 → m / 128 % 2 ≡ 1 → f / 64 % 2 ≡ 0 → Ok (time_of h m s f) ≡ time_read h m s f
  unfolding time_read
  all_right a b d = simp (eq-eqb _ _ a, eq-eqb _ _ b, eq-eqb _ _ d)
