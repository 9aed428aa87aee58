-- The first entries of a list, and one entry more, wherever it was read from.
-- Assumes nothing.
use mathlib.Core.List.{List, ◌++◌}
use mathlib.Core.Path.{◌≡◌, ◌∙◌, ap, refl}
use Prim.Native.Nat.{ℕ, zero, suc, ◌+◌, ◌<◌, ◌≤◌}
use native.Mathlib.Omega.{arith}
use lib.ListN.{get_or, length, take}
use Rattle.std.proofs.lemmas.List.{get_or-take}
use Rattle.basis.specs.Made.{made}
use Rattle.service_entry.specs.Service.{filler}
use Rattle.service_entry.proofs.EntriesWrites.{same_place}
use Rattle.text.proofs.LinesPut.{each_more}
use Rattle.text.specs.Lines.{line_text, lines_text}
use Rattle.text_dump.specs.Lines.{entry_line, place_line}
use Rattle.service_entry.specs.declared.entry.ServiceEntry.{ServiceEntry}

-- the first entries of a list, in their places
pub first_places : (services : List ServiceEntry) (count n : ℕ) → n ≤ count
    → made (place_line (take count services)) n ≡ made (place_line services) n
unfolding made
first_places services count zero h = refl
first_places services count (suc n) h =
    rw (first_places services count n (omega arith), get_or-take count services n filler (omega arith))

pub place_more : (services : List ServiceEntry) (k : ℕ) (d : ServiceEntry) → k < length services
    → lines_text (made (place_line services) k) ++ line_text (entry_line (get_or services k d))
    ≡ lines_text (made (place_line services) (k + 1))
place_more services k d h =
    ap (λ (e : ServiceEntry). lines_text (made (place_line services) k) ++ line_text (entry_line e))
    (same_place services k d filler h)
    ∙ each_more (place_line services) k
