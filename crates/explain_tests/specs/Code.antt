-- Follows the code and not the rules: a byte with more tests than one, in the order in which the code asks them.
use Rattle.std.specs.Prelude.{Bool, true, false, cond, not, ℕ}
use Rattle.basis.specs.Mask.{all_clear, all_set, x20, x3e, x3f, x40, x80}

-- an entry's header byte: 80, and with 40 also 20; and its byte 3: 40, and with 80 a number, without it 3E
abbrev pub header_takes : ℕ → Bool
header_takes v = cond (all_set x80 v) (cond (all_set x40 v) (all_set x20 v) true) false

abbrev pub kind_takes : ℕ → Bool
kind_takes v = cond (all_set x40 v) (cond (all_set x80 v) (not (all_clear x3f v)) (all_set x3e v)) false
