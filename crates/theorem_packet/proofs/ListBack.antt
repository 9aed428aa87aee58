-- A list that is read back counts the same entries.
-- Assumes nothing.
use mathlib.Core.List.{List, ◌∷◌}
use mathlib.Core.Path.{◌≡◌, ◌∙◌, refl, sym, ap}
use Prim.Native.Nat.{ℕ, zero, suc, ◌+◌, ◌≤◌}
use native.Mathlib.Numerals.{add-one}
use native.Mathlib.Omega.{arith}
use lib.ListN.{drop, get_or, length, length-append, take}
use lib.Seq.{drop-cons, take_at}
use Rattle.service_entry.specs.Service.{filler}
use Rattle.service_list.proofs.SectionWrites.{counted_length}
use Rattle.service_entry.specs.EntriesWriting.{places_from}
use Rattle.service_list.specs.SectionWriting.{counted}
use Rattle.service_entries.specs.Entries.{filled}
use Rattle.theorem_packet.specs.RoundTrip.{list_back}
use Rattle.service_entry.specs.declared.entry.ServiceEntry.{ServiceEntry}
use Rattle.service_list.specs.declared.list.ServiceInfo.{ServiceInfo}

-- places that are all there are a part of the list
places_part : (services : List ServiceEntry) (k n : ℕ) → k + n ≤ length services
    → places_from services k n ≡ take n (drop k services)
places_part services k zero h = refl
places_part services k (suc n) h =
    let here : drop k services ≡ get_or services k filler ∷ drop (k + 1) services =
    drop-cons services k filler (omega arith)
    ∙ ap (λ (j : ℕ). get_or services k filler ∷ drop j services) (sym (add-one k)) in
    ap (λ (es : List ServiceEntry). get_or services k filler ∷ es) (places_part services (k + 1) n (omega arith))
    ∙ ap (take (suc n)) (sym here)

-- Count and counted entries of the list that is shown are those of the list that was written.
pub counted_back : (l : ServiceInfo) → counted (list_back l) ≡ counted l
unfolding filled
counted_back l =
    places_part (filled (counted l)) 0 l.count (simp (length-append, counted_length l) (omega arith))
    ∙ take_at (counted l) _ l.count (counted_length l)
