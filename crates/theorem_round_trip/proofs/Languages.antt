-- What the type of a writer says of the languages of its list: each has three bytes.
-- Assumes nothing.
use mathlib.Core.Bool.{true}
use mathlib.Core.List.{List, [], ◌∷◌}
use mathlib.Core.Path.{◌≡◌, refl}
use Prim.Native.Nat.{ℕ, zero, suc, ◌+◌}
use borrow.Author.Tests.{eq-eqb}
use denote.Array.{each}
use denote.Laws.{Is}
use denote.Shadow.{shadow}
use denote.Struct.Declared.{row}
use lib.Dec.{eqb}
use lib.ListN.{get_or, length}
use mir.Val.{Val}
use Rattle.basis.proofs.Bools.{and_left, and_right}
use Rattle.service_entry.specs.Service.{filler}
use Rattle.service_list.specs.SectionBack.{all_of_three}
use Rattle.service_entry.specs.EntriesWriting.{places_from}
use Rattle.theorem_packet.specs.RoundTrip.{Languages}
use Rattle.service_entry.specs.contracts.entry.ServiceEntry as Entry
use Rattle.writer.specs.contracts.writer.CDPWriter as Writer
use Rattle.service_entry.specs.declared.entry.ServiceEntry.{ServiceEntry}
use Rattle.writer.specs.declared.writer.CDPWriter.{CDPWriter}

-- the values of an array of entries, one after the other: the type of each has its language of three bytes
each_three : (es : List ServiceEntry) (us : List Val)
    → shadow (each (Entry.the_row).Denot (Entry.the_row).own_val es us)
    → all_of_three es ≡ true
unfolding all_of_three
each_three [] us h = refl
each_three (e ∷ es) [] h = absurd h
each_three (e ∷ es) (u ∷ us) h =
    rw (eq-eqb (length e.language) 3 h.0.1.1.0.1.0.1)
    (each_three es us h.1)

-- so has each of its places, and the filler
three_at : (es : List ServiceEntry) → all_of_three es ≡ true → (k : ℕ)
    → eqb (length (get_or es k filler).language) 3 ≡ true
unfolding all_of_three
three_at [] h k = refl
three_at (e ∷ es) h zero = and_left _ _ h
three_at (e ∷ es) h (suc k) = three_at es (and_right (eqb (length e.language) 3) _ h) k

places_three : (es : List ServiceEntry) → all_of_three es ≡ true → (k n : ℕ) → all_of_three (places_from es k n) ≡ true
unfolding all_of_three
places_three es h k zero = refl
places_three es h k (suc n) = rw (three_at es h k) (places_three es h (k + 1) n)

-- So every counted entry of a list that a writer holds has a language of three bytes.
pub languages : (w : CDPWriter) (vs : List Val) → Is (row Writer.the_type) w vs → Languages w
languages w vs h held =
    places_three w.service_info.service_info.services
    (each_three w.service_info.service_info.services _ h.1.1.1.0.1.1.1.0.1.1.1.1.1.0.1.1)
    0
    w.service_info.service_info.count
