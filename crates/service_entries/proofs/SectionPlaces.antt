-- The places of a section's refusals: each inside the section, and an entry's where the entry stands.
-- Assumes nothing.
use mathlib.Core.Bool.{Bool, true, false, ◌&&◌, true≢false}
use mathlib.Core.List.{List}
use mathlib.Core.Path.{◌≡◌, ◌∙◌, refl, sym, ap}
use Rattle.std.specs.Prelude.{Err}
use Prim.Native.Nat.{ℕ, zero, suc, ◌+◌, ◌*◌, ◌≤◌}
use native.Mathlib.Omega.{arith}
use borrow.Author.Tests.{eq-eqb, eqb-true, le-leb, leb-true, lt-ltb}
use lib.Dec.{eqb}
use lib.ListN.{length}
use Rattle.basis.proofs.Holds.{Holds, Inside, So, Within, also, both, fixed, none, part_inside, place_most, placed_in}
use Rattle.basis.proofs.Readings.{place_read}
use Rattle.basis.specs.Check.{Verdict, moved, read_place, verdict}
use Rattle.basis.specs.declared.refusal.Refused.{Refused}
use Rattle.values.specs.Layout.{section_entry_size, section_length}
use Rattle.service_entry.proofs.EntryReads.{entry_within}
use Rattle.service_entry.specs.Entry.{entry_checks}
use Rattle.service_entries.specs.Code.{entry_outcome, section_outcome}
use Rattle.service_entries.specs.Entries.{checks_at, count_of, entry_list_checks, section_checks, six_behind}

-- one of the seven bytes of an entry and its header byte
at_within : (d : List ℕ) (at : ℕ) → Within 7 (checks_at d at)
at_within d at =
    fixed refl
    (fixed refl
    (both (moved 1 (entry_checks (six_behind d at))) _
    (part_inside false 1 6 7 (entry_checks (six_behind d at)) (omega arith) (entry_within (six_behind d at))) (fixed refl none)))

pub at_near : (d : List ℕ) (at : ℕ) → read_place (entry_outcome d at) ≤ 7
unfolding entry_outcome
at_near d at =
    let v : Verdict = verdict (checks_at d at) in
    rw (place_read {A = Unit} v tt) (place_most false 7 v (at_within d at).it)

-- so is that of a refusal that was given
pub at_near_refused : (d : List ℕ) (at : ℕ) (r : Refused) → entry_outcome d at ≡ Err r → r.place ≤ 7
at_near_refused d at r h = rw (← ap read_place h) (at_near d at)

entries_placed : (may_be_one : Bool) (d : List ℕ) (at n : ℕ) → at + section_entry_size * n ≤ length d
    → Holds (So (placed_in may_be_one (length d))) (entry_list_checks d at n)
entries_placed may_be_one d at zero fits = none
entries_placed may_be_one d at (suc n) fits =
    both (moved at (checks_at d at)) (entry_list_checks d (at + section_entry_size) n)
    (part_inside may_be_one at 7 (length d) (checks_at d at) (omega arith) (at_within d at))
    (entries_placed may_be_one d (at + section_entry_size) n (omega arith))

-- a section with another size than its count says is answered 1, at its end; one that cannot be, if there is no 1
sized : (may_be_one : Bool) (size : ℕ) (kept : Bool) → (may_be_one ≡ false → kept ≡ true) → kept ≡ false → (may_be_one && eqb size size) ≡ true
sized true size kept right wrong = eq-eqb size size refl
sized false size kept right wrong = absurd (true≢false (sym (right refl) ∙ wrong))

section_placed : (may_be_one : Bool) (d : List ℕ) → (may_be_one ≡ false → length d ≡ section_length (count_of d))
    → Holds (So (placed_in may_be_one (length d))) (section_checks d)
unfolding section_checks
section_placed may_be_one d right =
    let two : may_be_one ≡ false → 2 ≤ length d = λ s. omega (arith, right s) in
    also (sized may_be_one (length d) _ (λ s. le-leb 2 (length d) (two s)))
    (λ k.
    let long : 2 ≤ length d = leb-true 2 (length d) k in
    fixed (lt-ltb 0 (length d) (omega arith))
    (fixed (lt-ltb 1 (length d) (omega arith))
    (also (sized may_be_one (length d) _ (λ s. eq-eqb _ _ (right s)))
    (λ e. entries_placed may_be_one d 2 (count_of d) (omega (arith, eqb-true (length d) (section_length (count_of d)) e))))))

-- a section alone
pub section_inside : (d : List ℕ) → Inside (length d) (section_checks d)
section_inside d = section_placed true d (λ s. absurd (true≢false s))

pub section_near : (d : List ℕ) → read_place (section_outcome d) ≤ length d
unfolding section_outcome
section_near d =
    let v : Verdict = verdict (section_checks d) in
    rw (place_read {A = Unit} v tt) (place_most true (length d) v (section_inside d).it)

pub section_near_refused : (d : List ℕ) (r : Refused) → section_outcome d ≡ Err r → r.place ≤ length d
section_near_refused d r h = rw (← ap read_place h) (section_near d)

-- one that has the size that its count says, as in a packet: it is not answered 1
pub section_within : (d : List ℕ) → length d ≡ section_length (count_of d) → Within (length d) (section_checks d)
section_within d right = section_placed false d (λ _. right)
