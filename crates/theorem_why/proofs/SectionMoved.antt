-- The entries of a section that stands in a packet have the packet's own checks from there on.
-- Assumes nothing.
use mathlib.Core.List.{List, [], ◌∷◌, ◌++◌}
use mathlib.Core.Path.{◌≡◌, ◌∙◌, sym, refl, ap, ap₂}
use Prim.Native.Nat.{ℕ, zero, suc, ◌+◌, ◌*◌, ◌≤◌, ◌<◌}
use native.Mathlib.Nat.{add_assoc}
use native.Mathlib.Omega.{arith}
use Rattle.basis.proofs.Places.{byte_of_part}
use Rattle.basis.specs.Bytes.{byte, part}
use Rattle.basis.specs.Check.{Check, moved, moved_check}
use Rattle.values.specs.Layout.{section_entry_size}
use Rattle.service_entries.specs.Entries.{checks_at, entry_list_checks}

-- checks moved: of lists one after the other, and twice
pub moved_append : (i : ℕ) (xs ys : List Check) → moved i (xs ++ ys) ≡ moved i xs ++ moved i ys
moved_append i [] ys = refl
moved_append i (x ∷ xs) ys = ap (λ (cs : List Check). moved_check i x ∷ cs) (moved_append i xs ys)

moved_twice : (i j : ℕ) (cs : List Check) → moved i (moved j cs) ≡ moved (i + j) cs
moved_twice i j [] = refl
moved_twice i j (c ∷ cs) = ap₂ ◌∷◌ (rw (sym (add_assoc i j c.rule.at.place))) (moved_twice i j cs)

module _ (p : List ℕ) (i size : ℕ) where
  abbrev own : List ℕ
  own = part i size p

  module _ (at : ℕ) (fits : at + section_entry_size ≤ size) where
    there : (k : ℕ) → k < section_entry_size → byte own (at + k) ≡ byte p (i + at + k)
    there k few = byte_of_part p i size (at + k) (omega (arith, few, fits)) ∙ ap (byte p) (omega arith)

    checks_there : checks_at own at ≡ checks_at p (i + at)
    checks_there =
        rw (
          byte_of_part p i size at (omega (arith, fits)),
          there 4 (omega arith),
          there 5 (omega arith),
          there 6 (omega arith),
        )

  pub entries_there : (at n : ℕ) → at + section_entry_size * n ≤ size
      → moved i (entry_list_checks own at n) ≡ entry_list_checks p (i + at) n
  entries_there at zero fits = refl
  entries_there at (suc n) fits =
      moved_append i (moved at (checks_at own at)) (entry_list_checks own (at + section_entry_size) n)
      ∙ ap₂ ◌++◌ (moved_twice i at (checks_at own at) ∙ ap (moved (i + at)) (checks_there at (omega (arith, fits))))
      (entries_there (at + section_entry_size) n (omega (arith, fits))
      ∙ ap (λ (k : ℕ). entry_list_checks p k n) (sym (add_assoc i at section_entry_size)))
