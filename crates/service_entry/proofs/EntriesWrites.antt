-- Writing entries one after the other: whether all of them can be, their bytes, and what putting them leaves.
-- Assumes nothing.
use mathlib.Core.Path.{◌≡◌, ◌∙◌, sym, refl, ap}
use mathlib.Core.Bool.{Bool, true, false, cond, ◌&&◌}
use mathlib.Core.List.{List, [], ◌∷◌, ◌++◌}
use Prim.Native.Nat.{ℕ, zero, suc, ◌+◌, ◌-◌, ◌*◌, ◌≤◌, ◌<◌}
use native.Mathlib.Nat.{add-zero, sub-zero, not-suc-le-zero, le_of_suc-le-suc}
use native.Mathlib.Numerals.{add-one}
use native.Mathlib.Omega.{arith}
use borrow.Author.Tests.{le-leb, lt-leb}
use lib.ListN.{length, get_or, take}
use lib.Seq.{get_or-take, length-take-le}
use Rattle.basis.proofs.Bools.{and_left, and_right}
use Rattle.basis.proofs.Puts.{fits_clear, over_nil, over_over, short_refused}
use Rattle.basis.specs.declared.refusal.Refusal.TheVariants.{NotWritable}
use Rattle.basis.specs.Bytes.{over}
use Rattle.basis.specs.Check.{WriteVerdict, clear, broken, unplaced, verdict}
use Rattle.service_entry.specs.Code.{all_writable, array_places, entries_left, places_writable}
use Rattle.service_entry.specs.EntriesWriting.{entry_list_bytes, entry_write_checks, places_from}
use Rattle.service_entry.specs.EntryWriting.{seven_bytes, seven_length, writable}
use Rattle.service_entry.specs.Service.{filler}
use Rattle.service_entry.specs.declared.entry.ServiceEntry.{ServiceEntry}

-- an entry that is there is there whatever would stand in its place
pub same_place : (services : List ServiceEntry) (k : ℕ) (d e : ServiceEntry) → k < length services
    → get_or services k d ≡ get_or services k e
same_place [] k d e h = absurd (not-suc-le-zero h)
same_place (x ∷ xs) zero d e h = refl
same_place (x ∷ xs) (suc k) d e h = same_place xs k d e (le_of_suc-le-suc h)

-- whether the entries from k on, up to the count, can be written
unfoldable pub ahead : ℕ → ℕ → List ServiceEntry → Bool
ahead k count services = all_writable (places_from services k (count - k))

module _ (k count : ℕ) (services : List ServiceEntry) where
  pub ahead_first : all_writable (places_from services 0 count) ≡ ahead 0 count services
  unfolding ahead
  ahead_first = rw (sub-zero count)

  ahead_one : k < count
      → ahead k count services ≡ (writable (get_or services k filler).service && ahead (k + 1) count services)
  unfolding ahead all_writable
  ahead_one h =
      let n : count - k ≡ suc (count - (k + 1)) = omega arith in
      rw n

  module _ (d : ServiceEntry) (in_count : k < count) (in_places : k < length services) where
    pub ahead_stops : writable (get_or services k d).service ≡ false → ahead k count services ≡ false
    ahead_stops w = rw (ahead_one in_count, ← same_place services k d filler in_places, w)

    pub ahead_goes_on : writable (get_or services k d).service ≡ true
        → ahead k count services ≡ ahead (k + 1) count services
    ahead_goes_on w = rw (ahead_one in_count, ← same_place services k d filler in_places, w)

    -- where all of them can be written, this one can, and so can those behind it
    pub ahead_here : ahead k count services ≡ true → writable (get_or services k d).service ≡ true
    ahead_here h =
        rw (same_place services k d filler in_places)
        (and_left _ (ahead (k + 1) count services) (sym (ahead_one in_count) ∙ h))

    pub ahead_next : ahead k count services ≡ true → ahead (k + 1) count services ≡ true
    ahead_next h = and_right (writable (get_or services k filler).service) _ (sym (ahead_one in_count) ∙ h)

  pub ahead_ends : count ≤ k → ahead k count services ≡ true
  unfolding ahead all_writable
  ahead_ends h =
      let n : count - k ≡ 0 = omega arith in
      rw n

-- the same of an entry of the first so many places, as a loop over these meets it
module _ (k count : ℕ) (services : List ServiceEntry) (d : ServiceEntry) (held : count ≤ length services)
    (here : k < length (take count services)) where
  in_count : k < count
  in_count = omega (arith, length-take-le count services held)

  pub taken_goes_on : writable (get_or (take count services) k d).service ≡ true
      → ahead k count services ≡ ahead (k + 1) count services
  taken_goes_on w =
      ahead_goes_on k count services d in_count (omega (arith, in_count)) (rw (get_or-take count services k d in_count) at w)

  pub taken_stops : writable (get_or (take count services) k d).service ≡ false → ahead k count services ≡ false
  taken_stops w =
      ahead_stops k count services d in_count (omega (arith, in_count)) (rw (get_or-take count services k d in_count) at w)

-- the entries' checks come to one test
pub entries_verdict : (es : List ServiceEntry)
    → verdict (entry_write_checks es) ≡ cond (all_writable es) clear (broken (unplaced NotWritable))
unfolding all_writable
entries_verdict [] = refl
entries_verdict (e ∷ es) =
    step (writable e.service) (all_writable es) (verdict (entry_write_checks es)) (entries_verdict es)
  where
    step : (w ws : Bool) (v : WriteVerdict) → v ≡ cond ws clear (broken (unplaced NotWritable))
        → cond w v (broken (unplaced NotWritable)) ≡ cond (w && ws) clear (broken (unplaced NotWritable))
    step true ws v h = h
    step false ws v h = refl

-- seven bytes for each entry
pub bytes_length : (es : List ServiceEntry) → length (entry_list_bytes es) ≡ seven_length * length es
bytes_length [] = refl
bytes_length (e ∷ es) = omega (arith, bytes_length es)

-- one entry more at the end
bytes_more : (es : List ServiceEntry) (e : ServiceEntry)
    → entry_list_bytes (es ++ e ∷ []) ≡ entry_list_bytes es ++ seven_bytes e
bytes_more [] e = refl
bytes_more (x ∷ es) e = ap (λ (r : List ℕ). seven_bytes x ++ r) (bytes_more es e)

-- one place more at the end
places_more : (services : List ServiceEntry) (k n : ℕ)
    → places_from services k (suc n) ≡ places_from services k n ++ get_or services (k + n) filler ∷ []
places_more services k zero = ap (λ (j : ℕ). get_or services j filler ∷ []) (sym (add-zero k))
places_more services k (suc n) =
    let at : k + 1 + n ≡ k + suc n = omega arith in
    ap (λ (es : List ServiceEntry). get_or services k filler ∷ es)
    (places_more services (k + 1) n ∙ ap (λ (j : ℕ). places_from services (k + 1) n ++ get_or services j filler ∷ []) at)

pub places_length : (services : List ServiceEntry) (k n : ℕ) → length (places_from services k n) ≡ n
places_length services k zero = refl
places_length services k (suc n) = ap suc (places_length services (k + 1) n)

one_more : (services : List ServiceEntry) (k : ℕ)
    → places_from services 0 k ++ get_or services k filler ∷ [] ≡ places_from services 0 (k + 1)
one_more services k =
    let zero_first : k ≡ 0 + k = omega arith in
    ap (λ (j : ℕ). places_from services 0 k ++ get_or services j filler ∷ []) zero_first
    ∙ sym (places_more services 0 k)
    ∙ ap (λ (n : ℕ). places_from services 0 n) (sym (add-one k))

pub first_length : (services : List ServiceEntry) (k : ℕ) → length (entry_list_bytes (places_from services 0 k)) ≡ seven_length * k
first_length services k = omega (arith, bytes_length (places_from services 0 k), places_length services 0 k)

-- the buffer with the first k entries in it
unfoldable pub entries_put : ℕ → ℕ → List ServiceEntry → List ℕ → List ℕ
entries_put k at services buffer = over at (entry_list_bytes (places_from services 0 k)) buffer

module _ (k at : ℕ) (services : List ServiceEntry) (buffer : List ℕ) where
  pub put_none : buffer ≡ entries_put 0 at services buffer
  unfolding entries_put
  put_none = sym (over_nil at buffer)

  pub put_more : (d : ServiceEntry) → k < length services → at ≤ length buffer
      → over (at + seven_length * k) (seven_bytes (get_or services k d)) (entries_put k at services buffer)
      ≡ entries_put (k + 1) at services buffer
  unfolding entries_put
  put_more d h fits =
      let bytes : List ℕ = entry_list_bytes (places_from services 0 k) in
      let e : ServiceEntry = get_or services k filler in
      rw (same_place services k d filler h)
      (ap (λ (n : ℕ). over (at + n) (seven_bytes e) (over at bytes buffer)) (sym (first_length services k))
      ∙ over_over at bytes (seven_bytes e) buffer fits
      ∙ ap (λ (b : List ℕ). over at b buffer)
      (sym (bytes_more (places_from services 0 k) e) ∙ ap entry_list_bytes (one_more services k)))

  pub put_whole : (count : ℕ) → k ≡ count
      → entries_put k at services buffer ≡ over at (entry_list_bytes (places_from services 0 count)) buffer
  unfolding entries_put
  put_whole count h = rw h

-- what the tests come to
module _ (count : ℕ) (services : List ServiceEntry) where
  pub too_many : array_places < count → places_writable services count ≡ false
  unfolding places_writable
  too_many h = simp (lt-leb _ _ h)

  pub are_there : count ≤ array_places → places_writable services count ≡ all_writable (places_from services 0 count)
  unfolding places_writable
  are_there h = simp (le-leb _ _ h)

-- what putting the entries leaves, test by test
module _ (count at : ℕ) (services : List ServiceEntry) (buffer : List ℕ) where
  pub none_left : places_writable services count ≡ false → buffer ≡ entries_left services count at buffer
  unfolding entries_left
  none_left w = simp w

  module _ (all : places_writable services count ≡ true) where
    abbrev bytes : List ℕ
    bytes = entry_list_bytes (places_from services 0 count)

    pub short_left : length buffer < at + seven_length * count → buffer ≡ entries_left services count at buffer
    unfolding entries_left
    short_left h = simp all (short_refused at bytes buffer (omega (arith, first_length services count))).1

    pub all_left : at + seven_length * count ≤ length buffer → over at bytes buffer ≡ entries_left services count at buffer
    unfolding entries_left
    all_left h = simp all (fits_clear at bytes buffer (omega (arith, first_length services count))).1

-- where there is no room for all of them, nothing is put, whether they can be written or not
pub no_room_left : (count at : ℕ) (services : List ServiceEntry) (buffer : List ℕ) → length buffer < at + seven_length * count
    → buffer ≡ entries_left services count at buffer
no_room_left count at services buffer h = by (places_writable services count) refl
  where
    by : (all : Bool) → places_writable services count ≡ all → buffer ≡ entries_left services count at buffer
    by true e = short_left count at services buffer e h
    by false e = none_left count at services buffer e
