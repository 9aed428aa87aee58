-- A buffer as long as the longest text has the whole text of any input, at its start.
-- Assumes nothing.
use mathlib.Core.List.{List}
use mathlib.Core.Path.{◌≡◌}
use Prim.Native.Nat.{ℕ, ◌≤◌, ◌<◌}
use native.Mathlib.Omega.{arith}
use lib.ListN.{length, take}
use Rattle.basis.specs.Bytes.{byte}
use Rattle.text.proofs.Wholes.{taken, taken_size, taken_within}
use Rattle.text.specs.Whole.{text_written}
use Rattle.text_dump.specs.Dump.{dump_text, most_text}
use Rattle.text_dump.proofs.TextMost.{dump_most}
use Rattle.basis.specs.declared.answer.Answer.{Answer}

module _ (input buffer after : List ℕ) (a : Answer) (bytes : (i : ℕ) → byte input i < 256)
    (room : length buffer ≡ most_text) (answered : a ≡ (text_written (dump_text input) buffer).answer)
    (left : after ≡ (text_written (dump_text input) buffer).buffer) where
  fits : length (dump_text input) ≤ length buffer
  fits = omega (arith, room, dump_most input bytes)

  pub printed : take a.first after ≡ dump_text input
  printed = taken (dump_text input) buffer after a fits answered left

  pub printed_size : length (take a.first after) ≡ a.first
  printed_size = taken_size (dump_text input) buffer after a fits answered left

  pub printed_within : a.first ≤ length after
  printed_within = taken_within (dump_text input) buffer after a fits answered left
