-- A text that was put whole: its length in the answer, and all of it at the buffer's start.
-- Assumes nothing.
use mathlib.Core.List.{List, []}
use mathlib.Core.Path.{◌≡◌, ◌∙◌, sym, refl, ap}
use native.Mathlib.Omega.{arith}
use Prim.Native.Nat.{ℕ, ◌≤◌}
use lib.ListN.{length, length-take, take}
use Rattle.basis.proofs.Puts.{take_over}
use Rattle.basis.proofs.Writes.{all_fits}
use Rattle.basis.specs.Answer.{done}
use Rattle.basis.specs.Bytes.{over}
use Rattle.text.specs.Whole.{text_written}
use Rattle.basis.specs.declared.answer.Answer.{Answer}

module _ (text buffer : List ℕ) (room : length text ≤ length buffer) where
  pub whole_answer : (text_written text buffer).answer ≡ done (length text)
  unfolding text_written
  whole_answer = sym (all_fits [] (length text) text buffer refl refl room).0

  whole_buffer : (text_written text buffer).buffer ≡ over 0 text buffer
  unfolding text_written
  whole_buffer = sym (all_fits [] (length text) text buffer refl refl room).1

  pub whole_size : (text_written text buffer).answer.first ≡ length text
  whole_size = ap (λ (a : Answer). a.first) whole_answer

  pub whole_there : take (text_written text buffer).answer.first (text_written text buffer).buffer ≡ text
  whole_there = rw (whole_size, whole_buffer) (take_over text buffer)

-- and so a program, which puts it into a buffer with room and takes as much as the answer says, has all of it
module _ (text buffer after : List ℕ) (a : Answer) (room : length text ≤ length buffer)
    (answered : a ≡ (text_written text buffer).answer) (left : after ≡ (text_written text buffer).buffer) where
  pub taken : take a.first after ≡ text
  taken = rw (answered, left) (whole_there text buffer room)

  pub taken_size : length (take a.first after) ≡ a.first
  taken_size = ap length taken ∙ sym (ap (λ (x : Answer). x.first) answered ∙ whole_size text buffer room)

  pub taken_within : a.first ≤ length after
  taken_within = omega (arith, taken_size, length-take a.first after)
