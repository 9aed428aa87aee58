-- Where the section is whole and the header has its three flags, all that is left of rule 7 are the section's own
-- rules; and where rule 7 is kept, these are, and the flags are the same.
-- Assumes nothing.
use mathlib.Core.Bool.{Bool, beq, true, false, false≢true}
use mathlib.Core.List.{List, [], ◌∷◌, ◌++◌}
use mathlib.Core.Path.{◌≡◌, ◌∙◌, refl, ap}
use Prim.Native.Nat.{ℕ, ◌+◌, ◌≤◌}
use native.Mathlib.Omega.{arith}
use borrow.Author.Tests.{eq-eqb, le-leb}
use lib.ListN.{length}
use Rattle.basis.proofs.Bools.{and_left, and_right, beq_same}
use Rattle.basis.proofs.Verdicts.{
  and_clear,
  and_then,
  append_first,
  append_second,
  kept_at_lem,
  kept_from,
  moved_kept,
  moved_verdict,
  verdict_append,
  verdict_moved,
}
use Rattle.basis.specs.Bytes.{byte}
use Rattle.basis.specs.Check.{clear, moved, verdict}
use Rattle.values.specs.Layout.{services_id}
use Rattle.service_entries.specs.Entries.{section_checks}
use Rattle.service_list.specs.Section.{list_of}
use Rattle.read_services.specs.Services.{flags_check, same_flags, services_checks, services_part, services_size}
use Rattle.service_list.specs.declared.list.ServiceInfo.{ServiceInfo}
use Rattle.values.specs.declared.flags.Flags.{Flags}

-- the header's flags are the list's
pub record FlagsOf (f : Flags) (l : ServiceInfo) : Type 0 where
  pub start : f.svc_info_start ≡ l.start
  pub change : f.svc_info_change ≡ l.change
  pub complete : f.svc_info_complete ≡ l.complete

agree : (l : ServiceInfo) (f : Flags) → FlagsOf f l → same_flags l f ≡ true
unfolding same_flags
agree l f h = rw (h.start, h.change, h.complete, beq_same l.start, beq_same l.change, beq_same l.complete)

beq_true : (a b : Bool) → beq a b ≡ true → b ≡ a
beq_true true true h = refl
beq_true true false h = absurd (false≢true h)
beq_true false true h = absurd (false≢true h)
beq_true false false h = refl

agreed : (l : ServiceInfo) (f : Flags) → same_flags l f ≡ true → FlagsOf f l
unfolding same_flags
agreed l f h =
    let behind = and_right (beq l.start f.svc_info_start) _ h in
    record {
      start = beq_true _ _ (and_left (beq l.start f.svc_info_start) _ h);
      change = beq_true _ _ (and_left (beq l.change f.svc_info_change) _ behind);
      complete = beq_true _ _ (and_right (beq l.change f.svc_info_change) _ behind);
    }

module _ (p : List ℕ) (f : Flags) (i : ℕ) where
  abbrev own : List ℕ
  own = services_part p i

  pub alone : i + services_size p i ≤ length p → byte p i ≡ services_id → FlagsOf f (list_of own)
      → verdict (services_checks p f i) ≡ moved_verdict i (verdict (section_checks own))
  alone fits id flags =
      simp (
        le-leb (i + 2) (length p) (omega (arith, fits)),
        eq-eqb _ _ id,
        le-leb (i + services_size p i) (length p) fits,
      )
      (verdict_append (moved i (section_checks own)) (flags_check p f i ∷ [])
      ∙ ap (and_then (verdict (moved i (section_checks own)))) (rw (agree (list_of own) f flags))
      ∙ and_clear (verdict (moved i (section_checks own))))
      ∙ verdict_moved i (section_checks own)

  module _ (kept : verdict (services_checks p f i) ≡ clear) where
    own_and_flags : verdict (moved i (section_checks own) ++ flags_check p f i ∷ []) ≡ clear
    own_and_flags = kept_from 3 (services_checks p f i) kept

    pub own_kept : verdict (section_checks own) ≡ clear
    own_kept =
        moved_kept i (section_checks own) (append_first (moved i (section_checks own)) (flags_check p f i ∷ []) own_and_flags)

    pub flags_kept : FlagsOf f (list_of own)
    flags_kept =
        agreed (list_of own) f
        (kept_at_lem 0 (flags_check p f i ∷ []) (append_second (moved i (section_checks own)) (flags_check p f i ∷ []) own_and_flags))
