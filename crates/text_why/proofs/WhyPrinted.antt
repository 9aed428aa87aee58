-- A buffer as long as the longest text has the whole text of any input, at its start.
-- Assumes nothing.
use mathlib.Core.List.{List}
use mathlib.Core.Path.{◌≡◌}
use Prim.Native.Nat.{ℕ, ◌≤◌}
use native.Mathlib.Omega.{arith}
use lib.ListN.{length, take}
use Rattle.text.proofs.Wholes.{taken, taken_size, taken_within}
use Rattle.text.specs.Whole.{text_written}
use Rattle.text_why.specs.Explained.{why_most_text, why_text}
use Rattle.text_why.proofs.WhyMost.{why_most}
use Rattle.basis.specs.declared.answer.Answer.{Answer}

module _ (input buffer after : List ℕ) (a : Answer) (room : length buffer ≡ why_most_text)
    (answered : a ≡ (text_written (why_text input) buffer).answer)
    (left : after ≡ (text_written (why_text input) buffer).buffer) where
  fits : length (why_text input) ≤ length buffer
  fits = omega (arith, room, why_most input)

  pub printed : take a.first after ≡ why_text input
  printed = taken (why_text input) buffer after a fits answered left

  pub printed_size : length (take a.first after) ≡ a.first
  printed_size = taken_size (why_text input) buffer after a fits answered left

  pub printed_within : a.first ≤ length after
  printed_within = taken_within (why_text input) buffer after a fits answered left
