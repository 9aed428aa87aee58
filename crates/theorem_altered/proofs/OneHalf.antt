-- A packet with other captions alone, or with other services alone, is one that was altered;
-- and what was not altered stays.
-- Assumes nothing.
use mathlib.Core.Bool.{Bool, true, false, cond, true≢false}
use mathlib.Core.List.{List, [], ◌∷◌}
use mathlib.Core.Path.{◌≡◌, ◌∙◌, sym, refl, ap, ap₂}
use Prim.Native.Nat.{ℕ, ◌+◌, ◌-◌, ◌*◌, ◌≤◌}
use native.Mathlib.Omega.{arith}
use lib.ListN.{length}
use Rattle.basis.proofs.Verdicts.{when_there}
use Rattle.basis.specs.Bytes.{part}
use Rattle.basis.specs.Check.{clear, size_when, verdict}
use Rattle.basis.specs.Mask.{under, x0f, x1f}
use Rattle.values.specs.Flags.{flags_of}
use Rattle.values.specs.Layout.{section_length}
use Rattle.service_entries.specs.Entries.{count_of, section_checks}
use Rattle.service_list.specs.Section.{list_of, section_read}
use Rattle.service_list.specs.ServiceList.{list_absent, list_present}
use Rattle.read_captions.specs.Captions.{caption_count, captions_size, handed_out}
use Rattle.read_header.specs.Header.{flags_in}
use Rattle.read_services.proofs.ServicesAlone.{FlagsOf, flags_kept, own_kept}
use Rattle.read_services.specs.Services.{services_checks, services_size}
use Rattle.read_packet.proofs.PacketReads.{services_of_packet}
use Rattle.read_packet.specs.Packet.{captions_at, closing_at, services_at}
use Rattle.reader.specs.Reader.{captions_of}
use Rattle.theorem_altered.proofs.Outside.{Same, before, behind, section_fits}
use Rattle.theorem_altered.proofs.Spans.{parts_same}
use Rattle.theorem_altered.specs.Alteration.{
  Altered,
  OtherCaptions,
  OtherSection,
  OtherServices,
  Put,
  captions_from,
  new_captions,
  new_list,
  section_in,
}

-- a span in a wider one
module _ (from to : ℕ) (p q : List ℕ) (put : Put from to p q) where
  pub wider : (from' to' : ℕ) → from' ≤ from → to ≤ to' → Put from' to' p q
  wider from' to' earlier later =
      record {
        accepted = put.accepted;
        ends_with_footer = put.ends_with_footer;
        equally_many = put.equally_many;
        before_flags = put.before_flags;
        before_span = parts_same p q put.equally_many 5 (from' - 5)
            (λ (i : ℕ) low high. before from to p q put i low (omega (arith, low, high)));
        behind_span = parts_same p q put.equally_many to' (length p - 1 - to')
            (λ (i : ℕ) low high. behind from to p q put i (omega (arith, low)) (omega (arith, low, high)));
        checksum_mended = put.checksum_mended;
      }

-- the first half: the service section is the one that was there
module _ (p q : List ℕ) (c : OtherCaptions p q) where
  abbrev at : ℕ
  at = services_at p

  module _ (on : (flags_in p).svc_info ≡ true) where
    inside : Same p q at (at + services_size p at)
    inside i low high =
        behind (captions_from p) at p q c.put i low
        (omega (arith, high, section_fits (captions_from p) at p q c.put on))

    pub section_kept : section_in p q ≡ section_in p p
    section_kept =
        let size : services_size q at ≡ services_size p at =
        ap (λ (b : ℕ). section_length (under x0f b)) (inside (at + 1) (omega arith) (omega arith)) in
        ap (λ (n : ℕ). part at n q) size ∙ parts_same p q c.put.equally_many at (services_size p at) inside

    kept : verdict (services_checks p (flags_in p) at) ≡ clear
    kept =
        when_there (flags_in p).svc_info (services_checks p (flags_in p) at) on (services_of_packet p c.put.accepted)

    section_same : OtherSection p q
    unfolding section_read
    section_same =
        let own : verdict (section_checks (section_in p q)) ≡ clear =
        ap (λ (d : List ℕ). verdict (section_checks d)) section_kept ∙ own_kept p (flags_in p) at kept in
        let flags : FlagsOf (flags_in p) (list_of (section_in p q)) = rw section_kept (flags_kept p (flags_in p) at kept) in
        record {
          well_formed = rw own;
          as_many_entries = ap count_of section_kept;
          header_flags_mended = ap flags_of c.same_flags ∙ rw (← flags.start, ← flags.change, ← flags.complete);
        }

  pub captions_altered : Altered p q
  captions_altered =
      record {
        put = wider (captions_from p) at p q c.put (captions_from p) (closing_at p) (omega arith) (omega arith);
        section = section_same;
        same_flags = λ off. c.same_flags;
      }

  pub list_stays : new_list p q ≡ new_list p p
  list_stays = stays (flags_in p).svc_info refl
    where
      stays : (services : Bool) → (flags_in p).svc_info ≡ services
          → cond services (list_present (list_of (section_in p q))) list_absent
          ≡ cond services (list_present (list_of (section_in p p))) list_absent
      stays true on = ap (λ (d : List ℕ). list_present (list_of d)) (section_kept on)
      stays false off = refl

-- the second half: the captions are those that were there
captions_before : (present : Bool) (i k : ℕ) → i + size_when present 2 ≤ i + size_when present (2 + k)
captions_before true i k = omega arith
captions_before false i k = omega arith

handed_same : (p q : List ℕ) → length q ≡ length p → (i : ℕ) (present : Bool)
    → Same p q i (i + size_when present (captions_size p i))
    → cond present (handed_out q i) [] ≡ cond present (handed_out p i) []
handed_same p q size i true same =
    let count : caption_count q i ≡ caption_count p i = ap (under x1f) (same (i + 1) (omega arith) (omega arith)) in
    let run : part (i + 2) (3 * caption_count p i) q ≡ part (i + 2) (3 * caption_count p i) p =
    parts_same p q size (i + 2) (3 * caption_count p i)
    (λ (k : ℕ) low high. same k (omega (arith, low)) (omega (arith, high))) in
    ap₂ (λ (n : ℕ) (xs : List ℕ). (0xC0 + n) ∷ 0xFF ∷ xs) count (ap (λ (n : ℕ). part (i + 2) (3 * n) q) count ∙ run)
handed_same p q size i false same = refl

module _ (p q : List ℕ) (s : OtherServices p q) where
  pub services_altered : Altered p q
  services_altered =
      record {
        put = wider (services_at p) (closing_at p) p q s.put (captions_from p) (closing_at p)
            (captions_before (flags_in p).cc_data (captions_at p) (3 * caption_count p (captions_at p))) (omega arith);
        section = λ on. s.section;
        same_flags = λ off. absurd (true≢false (sym s.has_services ∙ off));
      }

  pub captions_stay : new_captions p q ≡ captions_of p
  captions_stay =
      handed_same p q s.put.equally_many (captions_at p) (flags_in p).cc_data
      (λ (i : ℕ) low high. before (services_at p) (closing_at p) p q s.put i (omega (arith, low)) high)
