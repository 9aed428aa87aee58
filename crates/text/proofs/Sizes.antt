-- How long pieces of text are, and lines that are all short.
-- Assumes nothing.
use mathlib.Core.Bool.{Bool, true, false}
use mathlib.Core.List.{List, [], ◌∷◌}
use mathlib.Core.Path.{◌≡◌, refl}
use Prim.Native.Nat.{ℕ, zero, suc, ◌+◌, ◌*◌, ◌≤◌}
use native.Mathlib.Nat.{mul-suc}
use native.Mathlib.Numerals.{add-one}
use native.Mathlib.Omega.{arith}
use lib.Dec.{eqb}
use lib.ListN.{length, length-append}
use Rattle.basis.specs.Answer.{done}
use Rattle.basis.specs.Made.{made}
use Rattle.text.proofs.Decimals.{decimal_most}
use Rattle.text.proofs.LinesPut.{each_more, each_none}
use Rattle.text.specs.Answers.{answer_line, both_values}
use Rattle.text.specs.Digits.{decimal_text, flag_text, hex_text, two_digits}
use Rattle.text.specs.Lines.{line_text, lines_text}
use Rattle.basis.specs.declared.answer.Answer.{Answer}

pub flag_size : (on : Bool) → length (flag_text on) ≡ 1
unfolding flag_text
flag_size true = refl
flag_size false = refl

pub hex_size : (b : ℕ) → length (hex_text b) ≡ 2
unfolding hex_text
hex_size b = refl

pub two_size : (n : ℕ) → length (two_digits n) ≡ 2
unfolding two_digits
two_size n = refl

-- so many lines, none of them longer than this
pub each_most : (line : ℕ → List ℕ) (most : ℕ) → ((k : ℕ) → length (line k) ≤ most) → (n : ℕ)
    → length (lines_text (made line n)) ≤ suc most * n
each_most line most h zero = rw (each_none line) (omega arith)
each_most line most h (suc n) =
    let front : length (lines_text (made line n)) ≤ suc most * n = each_most line most h n in
    let last : length (line n) ≤ most = h n in
    let all : suc most * suc n ≡ suc most * n + suc most = mul-suc (suc most) n in
    rw (
      ← add-one n,
      ← each_more line n,
      length-append (lines_text (made line n)) (line_text (line n)),
      length-append (line n) (10 ∷ []),
    )
    (omega (arith, all, add-one n))

-- the answer's line, of any answer and of 0
values_most : (a : Answer) → length (both_values a) ≤ 58
values_most a = simp length-append (omega (arith, decimal_most a.first, decimal_most a.second))

answer_cases : (a : Answer) (one : Bool) → eqb a.number 1 ≡ one → length (answer_line a) ≤ 85
unfolding answer_line
answer_cases a true e =
    rw e
    (omega (
      arith,
      decimal_most a.number,
      values_most a,
      length-append (decimal_text a.number) (both_values a),
    ))
answer_cases a false e =
    rw e (omega (arith, decimal_most a.number, length-append (decimal_text a.number) []))

pub answer_most : (a : Answer) → length (answer_line a) ≤ 85
answer_most a = answer_cases a (eqb a.number 1) refl

pub done_size : (l : ℕ) → length (answer_line (done l)) ≡ 8
unfolding answer_line decimal_text
done_size l = refl
