-- The examples hold: each is computed.
-- Assumes nothing.
use mathlib.Core.List.{List, [], ◌∷◌}
use mathlib.Core.Path.{◌≡◌, ◌∙◌, sym, refl, ap}
use Prim.Native.Nat.{ℕ}
use mathlib.Core.Bool.{false, true≢false}
use native.Mathlib.Omega.{arith}
use borrow.Author.Tests.{eq-eqb}
use lib.Dec.{eqb}
use lib.ListN.{replicate}
use Rattle.basis.specs.Bytes.{byte, over}
use Rattle.values.specs.Rate.{from_id}
use Rattle.values_time.specs.Time.{digits}
use Rattle.basis.specs.Answer.{done}
use Rattle.basis.specs.Check.{read_answer}
use Rattle.service_entries.specs.Entries.{count_of, filled, section_checks}
use Rattle.service_list.specs.Section.{list_of, section_read}
use Rattle.read_header.specs.Header.{flags_in}
use Rattle.read_closing.specs.Closing.{closing_checks}
use Rattle.read_services.specs.Services.{same_flags}
use Rattle.read_packet.specs.Packet.{closing_at, packet_checks, services_at}
use Rattle.reader.specs.Shown.{shown_by}
use Rattle.reader.specs.Reader.{buffer_after, read}
use Rattle.theorem_altered.specs.Alteration.{OtherSection, Put, captions_from, mended_flags, section_in}
use Rattle.theorem_altered.specs.Examples.{Examples, packet_before, spanish, with_both, with_captions', with_spanish}
use Rattle.theorem_altered.specs.Calls.{Call, flush, packet}
use Rattle.theorem_altered.specs.Twins.{Lent}

-- the checksum byte of a sequence's first packet
abbrev last : List Call → ℕ
last [] = 0
last (packet p lent ∷ cs) = byte p 29
last (flush ∷ cs) = 0

apart : (a b : ℕ) → eqb a b ≡ false → a ≡ b → ⊥
apart a b h e = true≢false (sym (eq-eqb a b e) ∙ h)

-- every packet has room for its captions
room : Lent (replicate 95 0x00) (replicate 96 0xA5)
room = record { first = omega arith; second = omega arith }

room' : Lent (replicate 200 0x00) (replicate 95 0x00)
room' = record { first = omega arith; second = omega arith }

captions_put_lem : Put (captions_from packet_before) (services_at packet_before) packet_before with_captions'
unfolding packet_checks closing_checks section_checks list_of filled same_flags from_id
captions_put_lem =
    record {
      accepted = refl;
      ends_with_footer = refl;
      equally_many = refl;
      before_flags = refl;
      before_span = refl;
      behind_span = refl;
      checksum_mended = refl;
    }

services_put_lem : Put (services_at packet_before) (closing_at packet_before) packet_before with_spanish
unfolding packet_checks closing_checks section_checks list_of filled same_flags from_id
services_put_lem =
    record {
      accepted = refl;
      ends_with_footer = refl;
      equally_many = refl;
      before_flags = refl;
      before_span = refl;
      behind_span = refl;
      checksum_mended = refl;
    }

both_put : Put (captions_from packet_before) (closing_at packet_before) packet_before with_both
unfolding packet_checks closing_checks section_checks list_of filled same_flags from_id
both_put =
    record {
      accepted = refl;
      ends_with_footer = refl;
      equally_many = refl;
      before_flags = refl;
      before_span = refl;
      behind_span = refl;
      checksum_mended = refl;
    }

spanish_read : read_answer (section_read spanish) 0 ≡ done 0
unfolding section_checks section_read list_of filled
spanish_read = refl

spanish_as_many : count_of spanish ≡ count_of (section_in packet_before packet_before)
unfolding section_checks section_read list_of filled
spanish_as_many = refl

spanish_flags : flags_in with_spanish ≡ mended_flags (flags_in packet_before) (list_of spanish)
unfolding section_checks section_read list_of filled
spanish_flags = refl

section_put_lem : (q : List ℕ) → section_in packet_before q ≡ spanish → flags_in q ≡ flags_in with_spanish → OtherSection packet_before q
section_put_lem q section flags =
    record {
      well_formed = rw section spanish_read;
      as_many_entries = rw section spanish_as_many;
      header_flags_mended = rw (section, flags) spanish_flags;
    }

pub examples : Examples
unfolding packet_checks closing_checks section_checks section_read list_of filled same_flags from_id digits read shown_by
    buffer_after over
examples =
    record {
      other_captions = ((room, record { put = captions_put_lem; same_flags = refl }), (room', (tt, tt)));
      other_services = (
        (room, record { put = services_put_lem; has_services = refl; section = section_put_lem with_spanish refl refl }),
        (room', (tt, tt)),
      );
      both = (
        (
          room,
          record {
            put = both_put;
            section = λ on. section_put_lem with_both refl refl;
            same_flags = λ off. absurd (true≢false off);
          },
        ),
        (room', (tt, tt)),
      );
      captions_differ = λ h. apart 0x3C 0x38 refl (ap last h);
      services_differ = λ h. apart 0x3C 0x1E refl (ap last h);
      both_differ = λ h. apart 0x3C 0x1A refl (ap last h);
      answered = refl;
      answered_after = refl;
      stood = refl;
      stood_after = refl;
      listed = refl;
      listed_after = refl;
      marked = refl;
      marked_after = refl;
    }
