-- `values_time::time::digits` is rule 5's digits at every number of tens bits up to three.
-- Assumes nothing.
use native.Mathlib.Omega.{arith}
use Rattle.values_time.specs.Time.{digits}
use Rattle.values_time.proofs.Digits.{span}
use Rattle.values_time.proofs.time.digits.Goals as goal

pub returns : goal.returns
unfolding digits
returns c =
    rw (span c.args.tens_bits c.requires) (omega (arith, c.units.ensures))
