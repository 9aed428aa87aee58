-- Reading a section, test by test: its frame, the entry at a place, and the entries one after the other.
-- Assumes nothing.
use mathlib.Core.Path.{◌≡◌, ◌∙◌, sym, refl, ap, ap₂}
use mathlib.Core.Bool.{Bool, true, false, not, ◌||◌}
use mathlib.Core.List.{List, [], ◌∷◌, ◌++◌}
use Prim.Native.Nat.{ℕ, zero, suc, ◌+◌, ◌-◌, ◌*◌, ◌/◌, ◌%◌, ◌≤◌, ◌<◌}
use native.Mathlib.Nat.{sub-zero}
use native.Mathlib.Numerals.{add-one}
use native.Mathlib.Omega.{arith}
use borrow.Author.Tests.{eq-eqb, ne_eqb, eqb-true, le-leb, lt-leb}
use lib.Dec.{eqb}
use lib.ListN.{drop, length, length-append, replicate, set}
use lib.Seq.{append_snoc, set-append_seam}
use Rattle.std.specs.Prelude.{Ok, Err}
use Rattle.basis.proofs.Readings.{given_clear, given_value, refused_alone, refused_first, refused_moved}
use Rattle.basis.proofs.Verdicts.{and_then, append_first, append_second, kept_at_lem, kept_from, moved_clear, moved_kept, moved_verdict, verdict_append, verdict_moved}
use Rattle.basis.specs.declared.refusal.Refusal.TheVariants.{LengthMismatch, WrongMagic, InvalidFixedBits, ServiceNumberMismatch}
use Rattle.basis.specs.declared.refusal.Refused.{Refused}
use Rattle.basis.specs.Bytes.{byte}
use Rattle.basis.specs.Check.{Verdict, clear, moved, read_as, refused_at, verdict}
use Rattle.basis.specs.Code.{outcome}
use Rattle.values.specs.Layout.{services_id, section_length, section_entry_size}
use Rattle.service_entry.specs.Entry.{entry_checks, entry_of, entry_read}
use Rattle.service_entries.specs.Entries.{
  checks_at,
  count_of,
  entries_of,
  entry_list_checks,
  filled,
  fillers,
  named_by,
  number_check,
  section_checks,
  six_behind,
}
use Rattle.service_entries.specs.Code.{entries_read, section_outcome, Framed, entry_outcome}
use Rattle.service_entry.specs.Service.{filler, number_of}
use Rattle.service_entry.specs.declared.entry.ServiceEntry.{ServiceEntry}

implied : (a b : Bool) → (a ≡ true → b ≡ true) → (not a || b) ≡ true
implied true b h = h refl
implied false b h = refl

upper : (q : ℕ) → q / 2 % 2 ≡ 1 → (q % 4 ≡ 2 → ⊥) → q % 2 ≡ 1
upper q a b = omega arith

-- of bits 40 and 20, the one without the other is the only fault
decide : (header : ℕ) → header / 64 % 2 ≡ 1 → (header / 32 % 4 ≡ 2 → ⊥) → header / 32 % 2 ≡ 1
decide header a b =
    let q : header / 64 ≡ header / 32 / 2 = omega arith in
    upper (header / 32) (rw (← q) a) b

-- a refusal of a part that stands further on, whatever stands behind the part
refused_behind_moved : {A B : Type 0} (from : ℕ) (v w : Verdict) (value : A) (other : B) (r : Refused) → read_as v value ≡ Err r
    → Err (refused_at r.refusal (from + r.place)) ≡ read_as (and_then (moved_verdict from v) w) other
refused_behind_moved from v w value other r h =
    refused_first _ (moved_verdict from v) w other other _ (sym (refused_moved from v value other r h))

-- S5 to S8
module _ (d : List ℕ) (at : ℕ) where
  pub header_no_80 : (byte d at / 128 % 2 ≡ 1 → ⊥) → Err (refused_at InvalidFixedBits 0) ≡ entry_outcome d at
  unfolding entry_outcome
  header_no_80 a = simp (ne_eqb _ _ a)

  module _ (has_80 : byte d at / 128 % 2 ≡ 1) where
    pub header_no_20 : byte d at / 32 % 4 ≡ 2 → Err (refused_at InvalidFixedBits 0) ≡ entry_outcome d at
    unfolding entry_outcome
    header_no_20 a =
        let with_40 : byte d at / 64 % 2 ≡ 1 = omega arith in
        let no_20 : byte d at / 32 % 2 ≡ 1 → ⊥ = λ h. omega arith in
        simp (eq-eqb _ _ has_80, eq-eqb _ _ with_40, ne_eqb _ _ no_20)

    module _ (has_20 : byte d at / 32 % 4 ≡ 2 → ⊥) where
      header_kept : (not (eqb (byte d at / 64 % 2) 1) || eqb (byte d at / 32 % 2) 1) ≡ true
      header_kept =
          implied _ _ (λ h.
          let with_40 : byte d at / 64 % 2 ≡ 1 = eqb-true _ _ h in
          eq-eqb _ _ (decide (byte d at) with_40 has_20))

      -- behind the header byte's own tests stand the entry's, and behind those the number's
      as_parts : verdict (checks_at d at)
          ≡ and_then (moved_verdict 1 (verdict (entry_checks (six_behind d at)))) (verdict (number_check d at ∷ []))
      as_parts =
          simp (eq-eqb _ _ has_80, header_kept)
          (verdict_append (moved 1 (entry_checks (six_behind d at))) (number_check d at ∷ []))
          ∙ ap (λ (v : Verdict). and_then v (verdict (number_check d at ∷ []))) (verdict_moved 1 (entry_checks (six_behind d at)))

      -- an entry that is refused by its own rules: its place is counted from the header byte
      pub entry_refused : (r : Refused) → entry_read (six_behind d at) ≡ Err r
          → Err (refused_at r.refusal (1 + r.place)) ≡ entry_outcome d at
      unfolding entry_read entry_outcome
      entry_refused r h =
          let own : Verdict = verdict (entry_checks (six_behind d at)) in
          refused_behind_moved 1 own (verdict (number_check d at ∷ [])) (entry_of (six_behind d at)) tt r h ∙ ap outcome (sym as_parts)

      module _ (e : ServiceEntry) (read : entry_read (six_behind d at) ≡ Ok e) where
        own_clear : verdict (entry_checks (six_behind d at)) ≡ clear
        unfolding entry_read
        own_clear = given_clear _ (verdict (entry_checks (six_behind d at))) (entry_of (six_behind d at)) e read

        whole : e ≡ entry_of (six_behind d at)
        unfolding entry_read
        whole = given_value _ (verdict (entry_checks (six_behind d at))) (entry_of (six_behind d at)) e read

        last_check : outcome (verdict (number_check d at ∷ [])) ≡ entry_outcome d at
        unfolding entry_outcome
        last_check =
            ap (λ (v : Verdict). outcome (and_then (moved_verdict 1 v) (verdict (number_check d at ∷ [])))) (sym own_clear)
            ∙ ap outcome (sym as_parts)

        pub other_number : (named_by (byte d at) ≡ number_of e.service → ⊥) → Err (refused_at ServiceNumberMismatch 0) ≡ entry_outcome d at
        other_number h =
            let other : named_by (byte d at) ≡ number_of (entry_of (six_behind d at)).service → ⊥ = rw whole at h in
            rw (← last_check) (simp (ne_eqb _ _ other))

        pub same_number : named_by (byte d at) ≡ number_of e.service → Ok tt ≡ entry_outcome d at
        same_number h =
            let same : named_by (byte d at) ≡ number_of (entry_of (six_behind d at)).service = rw whole at h in
            rw (← last_check) (simp (eq-eqb _ _ same))

-- the entries one after the other: what the first k from a place on hold, and what is left to test
unfoldable pub first_read : List ℕ → ℕ → ℕ → List ServiceEntry
first_read d from k = filled (entries_of d from k)

unfoldable pub left : List ℕ → ℕ → ℕ → Verdict
left d k count = verdict (entry_list_checks d (section_length k) (count - k))

-- one entry more at the end
entries_more : (d : List ℕ) (at n : ℕ)
    → entries_of d at (suc n) ≡ entries_of d at n ++ entry_of (six_behind d (at + section_entry_size * n)) ∷ []
entries_more d at zero =
    let e : at ≡ at + section_entry_size * 0 = omega arith in
    ap (λ (n : ℕ). entry_of (six_behind d n) ∷ []) e
entries_more d at (suc n) =
    let e : at + section_entry_size + section_entry_size * n ≡ at + section_entry_size * suc n = omega arith in
    ap (λ (es : List ServiceEntry). entry_of (six_behind d at) ∷ es)
    (entries_more d (at + section_entry_size) n ∙ ap (λ (m : ℕ). entries_of d (at + section_entry_size) n ++ entry_of (six_behind d m) ∷ []) e)

entries_length : (d : List ℕ) (at n : ℕ) → length (entries_of d at n) ≡ n
entries_length d at zero = refl
entries_length d at (suc n) = ap suc (entries_length d (at + section_entry_size) n)

-- the places of a list with one entry more
pub filled_more : (es : List ServiceEntry) (e : ServiceEntry) → length es < 15
    → set (filled es) (length es) e ≡ filled (es ++ e ∷ [])
unfolding filled
filled_more es e h =
    let m : ℕ = 14 - length es in
    let before : 15 - length es ≡ suc m = omega arith in
    let after : m ≡ 15 - length (es ++ e ∷ []) = simp length-append (omega arith) in
    ap (λ (n : ℕ). set (es ++ replicate n filler) (length es) e) before
    ∙ set-append_seam es filler (replicate m filler) e
    ∙ sym (append_snoc es e (replicate m filler))
    ∙ ap (λ (n : ℕ). es ++ e ∷ [] ++ replicate n filler) after

module _ (d : List ℕ) (from k : ℕ) where
  pub first_none : fillers ≡ first_read d from 0
  unfolding first_read filled
  first_none = refl

  pub first_more : k < 15 → set (first_read d from k) k (entry_of (six_behind d (from + section_entry_size * k))) ≡ first_read d from (k + 1)
  unfolding first_read
  first_more h =
      let es : List ServiceEntry = entries_of d from k in
      let e : ServiceEntry = entry_of (six_behind d (from + section_entry_size * k)) in
      let long : length es ≡ k = entries_length d from k in
      ap (λ (n : ℕ). set (filled es) n e) (sym long)
      ∙ filled_more es e (omega arith)
      ∙ ap filled (sym (entries_more d from k))
      ∙ ap (λ (n : ℕ). filled (entries_of d from n)) (sym (add-one k))

  pub first_all : (count : ℕ) → k ≡ count → first_read d from k ≡ filled (entries_of d from count)
  unfolding first_read
  first_all count h = rw h

module _ (d : List ℕ) (k count : ℕ) where
  pub left_first : verdict (entry_list_checks d 2 count) ≡ left d 0 count
  unfolding left
  left_first = rw (sub-zero count)

  -- what is left at k is the entry at k and what is left behind it
  left_step : k < count
      → left d k count
      ≡ and_then (moved_verdict (section_length k) (verdict (checks_at d (section_length k)))) (left d (k + 1) count)
  unfolding left
  left_step h =
      let at : ℕ = section_length k in
      let rest : ℕ = count - (k + 1) in
      let before : count - k ≡ suc rest = omega arith in
      let after : at + section_entry_size ≡ section_length (k + 1) = omega arith in
      ap (λ (n : ℕ). verdict (entry_list_checks d at n)) before
      ∙ verdict_append (moved at (checks_at d at)) (entry_list_checks d (at + section_entry_size) rest)
      ∙ ap₂
      and_then
      (verdict_moved at (checks_at d at))
      (ap (λ (n : ℕ). verdict (entry_list_checks d n rest)) after)

  pub left_none : count ≤ k → left d k count ≡ clear
  unfolding left
  left_none h =
      let none : count - k ≡ 0 = omega arith in
      rw none

  pub left_goes_on : (u : Unit) → k < count → entry_outcome d (section_length k) ≡ Ok u
      → left d k count ≡ left d (k + 1) count
  unfolding entry_outcome
  left_goes_on u h r =
      left_step h
      ∙ ap (λ (v : Verdict). and_then v (left d (k + 1) count))
      (moved_clear (section_length k) (verdict (checks_at d (section_length k)))
      (given_clear _ (verdict (checks_at d (section_length k))) tt u r))

-- S1 to S4, where one of them is the first that fails
module _ (d : List ℕ) where
  pub too_short : length d < 2 → Err (refused_at (LengthMismatch 2 (length d)) (length d)) ≡ section_outcome d
  unfolding section_outcome section_checks
  too_short h = simp (lt-leb _ _ h)

  pub other_id : 2 ≤ length d → (byte d 0 ≡ services_id → ⊥) → Err (refused_at WrongMagic 0) ≡ section_outcome d
  unfolding section_outcome section_checks
  other_id h a = simp (le-leb _ _ h, ne_eqb _ _ a)

  pub no_80 : 2 ≤ length d → byte d 0 ≡ services_id → (byte d 1 / 128 % 2 ≡ 1 → ⊥)
      → Err (refused_at InvalidFixedBits 1) ≡ section_outcome d
  unfolding section_outcome section_checks
  no_80 h a b = simp (le-leb _ _ h, eq-eqb _ _ a, ne_eqb _ _ b)

  pub other_size : 2 ≤ length d → byte d 0 ≡ services_id → byte d 1 / 128 % 2 ≡ 1
      → (length d ≡ section_length (byte d 1 % 16) → ⊥)
      → Err (refused_at (LengthMismatch (section_length (byte d 1 % 16)) (length d)) (length d)) ≡ section_outcome d
  unfolding section_outcome section_checks
  other_size h a b s =
      let n : byte d 1 / 1 % 16 ≡ byte d 1 % 16 = omega arith in
      simp (n, le-leb _ _ h, eq-eqb _ _ a, eq-eqb _ _ b, ne_eqb _ _ s)

-- S1 to S4 kept: the entries decide
module _ (d : List ℕ) (header : ℕ) (framed : Framed d header) where
  count_is : count_of d ≡ header % 16
  count_is = omega (arith, framed.first)

  frame_kept : verdict (section_checks d) ≡ left d 0 (header % 16)
  unfolding section_checks
  frame_kept =
      let two : 2 ≤ length d = omega (arith, framed.size) in
      let fixed : byte d 1 / 128 % 2 ≡ 1 = rw framed.first framed.fixed in
      simp (le-leb _ _ two, eq-eqb _ _ framed.id, eq-eqb _ _ fixed, count_is, eq-eqb _ _ framed.size)
      (left_first d 0 (header % 16))

  -- the first that is refused: its place is counted from the section's first byte
  pub section_refused : (k : ℕ) (r : Refused) → k < header % 16 → left d 0 (header % 16) ≡ left d k (header % 16)
      → entry_outcome d (section_length k) ≡ Err r
      → Err (refused_at r.refusal (section_length k + r.place)) ≡ section_outcome d
  unfolding section_outcome entry_outcome
  section_refused k r h so_far wrong =
      let at : ℕ = section_length k in
      refused_behind_moved at (verdict (checks_at d at)) (left d (k + 1) (header % 16)) tt tt r wrong
      ∙ ap outcome (sym (frame_kept ∙ so_far ∙ left_step d k (header % 16) h))

  pub section_whole : (k : ℕ) → k ≡ header % 16 → left d 0 (header % 16) ≡ left d k (header % 16)
      → Ok tt ≡ section_outcome d
  unfolding section_outcome
  section_whole k h so_far =
      ap outcome (sym (frame_kept ∙ so_far ∙ left_none d k (header % 16) (omega arith)))

-- reading gives what a section holds where the tests are clear, and hands on what they refuse
module _ (d : List ℕ) where
  pub entries_refused : (r : Refused) → section_outcome d ≡ Err r → Err r ≡ entries_read d
  unfolding section_outcome entries_read
  entries_refused r h = refused_alone _ (verdict (section_checks d)) tt (filled (entries_of d 2 (count_of d))) r h

  pub section_clear : (u : Unit) → section_outcome d ≡ Ok u → verdict (section_checks d) ≡ clear
  unfolding section_outcome
  section_clear u h = given_clear _ (verdict (section_checks d)) tt u h

  pub entries_read_lem : (u : Unit) → section_outcome d ≡ Ok u → Ok (filled (entries_of d 2 (count_of d))) ≡ entries_read d
  unfolding entries_read
  entries_read_lem u h = rw (section_clear u h)

-- what an entry's own reader gives is what its bytes hold
pub entry_is : (six : List ℕ) (e : ServiceEntry) → entry_read six ≡ Ok e → e ≡ entry_of six
unfolding entry_read
entry_is six e h = given_value _ (verdict (entry_checks six)) (entry_of six) e h

-- of entries that are right, each is right by its own rules, so that its own reader gives it
module _ (d : List ℕ) where
  at_kept : (from count k : ℕ) → k < count → verdict (entry_list_checks d from count) ≡ clear
      → verdict (checks_at d (from + section_entry_size * k)) ≡ clear
  at_kept from zero k h v = absurd (omega arith)
  at_kept from (suc n) zero h v =
      let e : from ≡ from + section_entry_size * 0 = omega arith in
      rw (← e)
      (moved_kept from (checks_at d from)
      (append_first (moved from (checks_at d from)) (entry_list_checks d (from + section_entry_size) n) v))
  at_kept from (suc n) (suc k) h v =
      let e : from + section_entry_size + section_entry_size * k ≡ from + section_entry_size * suc k = omega arith in
      rw (← e)
      (at_kept (from + section_entry_size) n k (omega arith)
      (append_second (moved from (checks_at d from)) (entry_list_checks d (from + section_entry_size) n) v))

  pub entry_held : (from count k : ℕ) → verdict (entry_list_checks d from count) ≡ clear → k < count
      → entry_read (six_behind d (from + section_entry_size * k)) ≡ Ok (entry_of (six_behind d (from + section_entry_size * k)))
  unfolding entry_read
  entry_held from count k v h =
      let at : ℕ = from + section_entry_size * k in
      let behind : verdict (drop 2 (checks_at d at)) ≡ clear = kept_from 2 (checks_at d at) (at_kept from count k h v) in
      let own : verdict (entry_checks (six_behind d at)) ≡ clear =
      moved_kept 1 (entry_checks (six_behind d at))
      (append_first (moved 1 (entry_checks (six_behind d at))) (number_check d at ∷ []) behind) in
      rw own

-- a section that is right has all its bytes, and its entries are right
module _ (d : List ℕ) (right : verdict (section_checks d) ≡ clear) where
  pub section_long : length d ≡ section_length (byte d 1 % 16)
  unfolding section_checks
  section_long =
      let said : length d ≡ section_length (count_of d) = eqb-true _ _ (kept_at_lem 3 (section_checks d) right) in
      omega (arith, said)

  pub entries_right : verdict (entry_list_checks d 2 (count_of d)) ≡ clear
  unfolding section_checks
  entries_right = kept_from 4 (section_checks d) right

  pub entry_right : (k : ℕ) → k < count_of d
      → entry_read (six_behind d (2 + section_entry_size * k)) ≡ Ok (entry_of (six_behind d (2 + section_entry_size * k)))
  entry_right k h = entry_held d 2 (count_of d) k entries_right h
