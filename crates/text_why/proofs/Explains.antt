-- The lines of a packet, by the reason that it has: one where it is accepted, else six, the first with what is said of the test.
-- Assumes nothing.
use mathlib.Core.List.{List, [], ◌∷◌}
use mathlib.Core.Path.{◌≡◌, ap}
use Prim.Native.Nat.{ℕ}
use Rattle.text.specs.Ascii.{ascii}
use Rattle.basis.specs.declared.test.Test.TheVariants.{Byte, Pair, Size}
use Rattle.text_why.specs.Explained.{lines_for, refusal_lines, why_lines}
use Rattle.explain.specs.declared.why.FailedByte.{FailedByte}
use Rattle.explain.specs.declared.why.FailedPair.{FailedPair}
use Rattle.explain.specs.declared.why.FailedSize.{FailedSize}
use Rattle.explain.specs.declared.why.Reason.TheVariants.{Accepted, OfByte, OfPair, OfSize}
use Rattle.explain.specs.declared.why.Why.{Why}

module _ (p : List ℕ) (w : Why) where
  pub accepted_line : w.reason ≡ Accepted → why_lines p w ≡ ascii "accepted" ∷ []
  unfolding why_lines
  accepted_line e = ap (lines_for p w) e

  pub size_lines : (failed : FailedSize) → w.reason ≡ OfSize failed
      → why_lines p w ≡ refusal_lines p w (Size failed.test)
  unfolding why_lines
  size_lines failed e = ap (lines_for p w) e

  pub pair_lines : (failed : FailedPair) → w.reason ≡ OfPair failed
      → why_lines p w ≡ refusal_lines p w (Pair failed.test)
  unfolding why_lines
  pair_lines failed e = ap (lines_for p w) e

  pub byte_lines : (failed : FailedByte) → w.reason ≡ OfByte failed
      → why_lines p w ≡ refusal_lines p w (Byte failed.test)
  unfolding why_lines
  byte_lines failed e = ap (lines_for p w) e
