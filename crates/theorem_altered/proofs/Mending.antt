-- Whatever is put into an accepted packet that ends with its footer, as the demand says it,
-- makes a packet that is so altered.
-- Assumes nothing.
use mathlib.Core.Bool.{Bool, true}
use mathlib.Core.List.{List, [], ◌∷◌}
use mathlib.Core.Path.{◌≡◌, ◌∙◌, sym, refl, ap}
use Prim.Native.Nat.{ℕ, ◌+◌, ◌-◌, ◌≤◌, ◌<◌}
use native.Mathlib.Omega.{arith}
use borrow.Author.Tests.{eqb-true}
use lib.Dec.{eqb}
use lib.ListN.{length}
use Rattle.basis.proofs.Puts.{length_over}
use Rattle.basis.proofs.Readings.{answer_read}
use Rattle.basis.proofs.Verdicts.{done_clear, kept_at_lem}
use Rattle.basis.specs.Answer.{done}
use Rattle.basis.specs.Bytes.{byte, over, part}
use Rattle.basis.specs.Check.{clear, read_answer, size_when, verdict}
use Rattle.basis.specs.Mask.{under, x0f}
use Rattle.values.specs.Flags.{flags_of}
use Rattle.values.specs.Layout.{section_length, footer_size}
use Rattle.service_entries.specs.Entries.{count_of, section_checks}
use Rattle.service_list.specs.Section.{list_of, section_read}
use Rattle.read_header.specs.Header.{flags_in}
use Rattle.read_services.specs.Services.{services_size}
use Rattle.read_packet.specs.Packet.{closing_at, footer_at, packet_checks, services_at}
use Rattle.theorem_altered.proofs.Outside.{Same, further}
use Rattle.theorem_altered.proofs.Spans.{parts_same}
use Rattle.basis.proofs.Places.{byte_of_part}
use Rattle.read_services.proofs.ServicesReads.{count_at}
use Rattle.theorem_altered.specs.Alteration.{OtherCaptions, OtherServices, Put, captions_from, mended_flags, section_in}
use Rattle.theorem_altered.specs.Mending.{captions_put, mended, section_put}
use Rattle.basis.specs.declared.answer.Answer.{Answer}
use Rattle.theorem_altered.proofs.PutBytes.{
  mended_before,
  mended_last,
  mended_long,
  over_before,
  over_behind,
  over_inside,
}

module _ (p : List ℕ) (accepted : verdict (packet_checks p) ≡ clear) (ends : length p ≡ footer_at p + footer_size) where
  -- a packet that is the same outside a span and outside byte 4, mended
  module _ (from to : ℕ) (r : List ℕ) (size : length r ≡ length p) (low : 5 ≤ from) (within : from < length p)
      (first : Same p r 0 4) (middle : Same p r 5 from) (behind : Same p r to (length p - 1)) where
    some : 1 ≤ length r
    some = omega (arith, size, within)

    kept : (i : ℕ) → i < length p - 1 → byte r i ≡ byte p i → byte (mended r) i ≡ byte p i
    kept i h same = mended_before r some i (omega (arith, h, size)) ∙ same

    long : length (mended r) ≡ length p
    long = mended_long r some ∙ size

    pub put_mended : Put from to p (mended r)
    put_mended =
        record {
          accepted = accepted;
          ends_with_footer = ends;
          equally_many = long;
          before_flags = parts_same p (mended r) long 0 4
              (λ (i : ℕ) least most. kept i (omega (arith, most, low, within)) (first i least most));
          before_span = parts_same p (mended r) long 5 (from - 5)
              (λ (i : ℕ) least most.
              kept i (omega (arith, least, most, within)) (middle i least (omega (arith, least, most))));
          behind_span = parts_same p (mended r) long to (length p - 1 - to)
              (λ (i : ℕ) least most. kept i (omega (arith, least, most)) (behind i least (omega (arith, least, most))));
          checksum_mended = mended_last r some;
        }

  -- The first half: any caption bytes, equally many.
  module _ (captions : List ℕ) (equally_many : captions_from p + length captions ≡ services_at p) where
    abbrev put_in : List ℕ
    put_in = over (captions_from p) captions p

    captions_end : services_at p + footer_size ≤ length p
    captions_end = omega (arith, ends, further p p refl (length p) (closing_at p))

    fits : captions_from p + length captions ≤ length p
    fits = omega (arith, equally_many, captions_end)

    long_in : length put_in ≡ length p
    long_in = length_over (captions_from p) captions p fits

    before_captions : (i : ℕ) → i < captions_from p → byte put_in i ≡ byte p i
    before_captions = over_before (captions_from p) captions p fits

    pub captions_put_lem : OtherCaptions p (captions_put captions p)
    captions_put_lem =
        record {
          put = put_mended (captions_from p) (services_at p) put_in long_in (omega arith)
              (omega (arith, equally_many, captions_end))
              (λ (i : ℕ) low high. before_captions i (omega (arith, high)))
              (λ (i : ℕ) low high. before_captions i high)
              (λ (i : ℕ) low high. over_behind (captions_from p) captions p fits i (omega (arith, low, equally_many)));
          same_flags =
              mended_before put_in (omega (arith, long_in, captions_end)) 4 (omega (arith, long_in, captions_end))
              ∙ before_captions 4 (omega arith);
        }

    -- and they are the captions that are shown
    pub captions_there : part (captions_from p) (length captions) (captions_put captions p) ≡ captions
    captions_there =
        parts_same put_in (captions_put captions p) (mended_long put_in (omega (arith, long_in, captions_end)))
        (captions_from p) (length captions)
        (λ (i : ℕ) low high. mended_before put_in (omega (arith, long_in, captions_end)) i
        (omega (arith, high, long_in, equally_many, captions_end)))
        ∙ over_inside (captions_from p) captions p fits

  -- The second half: any well-formed section with as many entries, and a byte 4 that has its three flags.
  module _ (section : List ℕ) (flags : ℕ) (on : (flags_in p).svc_info ≡ true)
      (well_formed : read_answer (section_read section) 0 ≡ done 0)
      (as_many : count_of section ≡ count_of (section_in p p))
      (mended_flags_of : flags_of flags ≡ mended_flags (flags_in p) (list_of section)) where
    abbrev at : ℕ
    at = services_at p

    own_long : length section ≡ section_length (count_of section)
    unfolding section_read section_checks
    own_long =
        let all : verdict (section_checks section) ≡ clear =
        done_clear (verdict (section_checks section)) 0
        (ap (λ (a : Answer). eqb a.number 0)
        (sym (answer_read (verdict (section_checks section)) (list_of section) 0) ∙ well_formed)) in
        eqb-true _ _ (kept_at_lem 3 (section_checks section) all)

    closing_is : closing_at p ≡ at + length section
    closing_is =
        ap (λ (b : Bool). at + size_when b (services_size p at)) on
        ∙ ap (λ (n : ℕ). at + section_length n) (sym (count_at p at) ∙ sym as_many)
        ∙ ap (λ (n : ℕ). at + n) (sym own_long)

    end : closing_at p + footer_size ≤ length p
    end = omega (arith, ends, further p p refl (length p) (closing_at p))

    room : at + length section ≤ length p
    room = omega (arith, closing_is, end)

    abbrev inner : List ℕ
    inner = over at section p

    inner_long : length inner ≡ length p
    inner_long = length_over at section p room

    room_4 : 4 + length (flags ∷ []) ≤ length inner
    room_4 = omega (arith, inner_long, end)

    abbrev outer : List ℕ
    outer = over 4 (flags ∷ []) inner

    outer_long : length outer ≡ length p
    outer_long = length_over 4 (flags ∷ []) inner room_4 ∙ inner_long

    abbrev q : List ℕ
    q = section_put section flags p

    q_byte : (i : ℕ) → i < length p - 1 → byte q i ≡ byte outer i
    q_byte i h = mended_before outer (omega (arith, outer_long, end)) i (omega (arith, h, outer_long))

    there : part at (length section) q ≡ section
    there =
        parts_same inner q (mended_long outer (omega (arith, outer_long, end)) ∙ outer_long ∙ sym inner_long)
        at (length section)
        (λ (i : ℕ) low high. q_byte i (omega (arith, high, closing_is, end))
        ∙ over_behind 4 (flags ∷ []) inner room_4 i (omega (arith, low)))
        ∙ over_inside at section p room

    pub section_there : section_in p q ≡ section
    section_there =
        let count : byte q (at + 1) ≡ byte section 1 =
        sym (byte_of_part q at (length section) 1 (omega (arith, own_long))) ∙ ap (λ (d : List ℕ). byte d 1) there in
        ap (λ (b : ℕ). part at (section_length (under x0f b)) q) count
        ∙ ap (λ (n : ℕ). part at n q) (sym own_long)
        ∙ there

    flags_there : byte q 4 ≡ flags
    flags_there =
        q_byte 4 (omega (arith, end))
        ∙ sym (byte_of_part outer 4 1 0 (omega arith))
        ∙ ap (λ (d : List ℕ). byte d 0) (over_inside 4 (flags ∷ []) inner room_4)

    pub section_put_lem : OtherServices p q
    section_put_lem =
        record {
          put = put_mended at (closing_at p) outer outer_long (omega arith) (omega (arith, closing_is, end))
              (λ (i : ℕ) low high.
              over_before 4 (flags ∷ []) inner room_4 i high ∙ over_before at section p room i (omega (arith, high)))
              (λ (i : ℕ) low high. over_behind 4 (flags ∷ []) inner room_4 i low ∙ over_before at section p room i high)
              (λ (i : ℕ) low high. over_behind 4 (flags ∷ []) inner room_4 i (omega (arith, low))
              ∙ over_behind at section p room i (omega (arith, low, closing_is)));
          has_services = on;
          section =
              record {
                well_formed = rw section_there well_formed;
                as_many_entries = rw section_there as_many;
                header_flags_mended = rw section_there (ap flags_of flags_there ∙ mended_flags_of);
              };
        }
