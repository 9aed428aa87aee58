-- Rule 5: the time code, five bytes from i on.
use Rattle.std.specs.Prelude.{Bool, cond, List, ◌∷◌, ℕ, ◌+◌, eqb}
use Rattle.basis.specs.declared.refusal.Refusal.TheVariants.{WrongMagic}
use Rattle.basis.specs.Bytes.{byte}
use Rattle.basis.specs.Check.{Check, check_at, moved, size_check}
use Rattle.basis.specs.declared.test.SizeTest.TheVariants.{TimeWhole}
use Rattle.basis.specs.declared.test.ByteTest.TheVariants.{TimeId}
use Rattle.basis.specs.declared.test.Test.TheVariants.{Byte}
use Rattle.values.specs.Layout.{time_code_id, time_code_size}
use Rattle.values_time.specs.Time.{time_checks, time_of, time_present, time_absent}
use Rattle.values_time.specs.declared.time.MaybeTimeCode.{MaybeTimeCode}
use Rattle.values_time.specs.declared.time.TimeCode.{TimeCode}

-- the four bytes behind the id byte, and what is made of them
abbrev pub of_four : {A : Type 0} → (ℕ → ℕ → ℕ → ℕ → A) → List ℕ → ℕ → A
of_four f p i = f (byte p (i + 1)) (byte p (i + 2)) (byte p (i + 3)) (byte p (i + 4))

-- 5.1: n is at least i+5; 5.2: byte i is 71; 5.3 to 5.5: the fixed bits of the four bytes behind it
abbrev pub time_code_checks : List ℕ → ℕ → List Check
time_code_checks p i =
    size_check TimeWhole p (i + time_code_size)
    ∷ check_at i (Byte TimeId) (eqb (byte p i) time_code_id) WrongMagic
    ∷ moved (i + 1) (of_four time_checks p i)

-- what the four bytes say
abbrev pub time_code_in : List ℕ → ℕ → TimeCode
time_code_in p i = of_four time_of p i

-- absent where the flag is clear
abbrev pub time_code_of : List ℕ → Bool → ℕ → MaybeTimeCode
time_code_of p present i = cond present (time_present (time_code_in p i)) time_absent
