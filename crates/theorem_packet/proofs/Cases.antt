-- The worked cases hold: each is computed, P1 to P7 for every state and every caption buffer with room, P6 for every
-- value of its last byte, P8 for all bytes beside the hours, P12 for every buffer that has room.
-- Assumes nothing.
use mathlib.Core.Bool.{false}
use mathlib.Core.List.{List, []}
use mathlib.Core.Path.{◌≡◌, refl}
use Prim.Native.Nat.{ℕ}
use borrow.Author.Tests.{le-leb}
use Rattle.basis.proofs.Puts.{over_nil}
use Rattle.basis.specs.Bytes.{over}
use Rattle.basis.specs.Check.{Verdict, answer, broken, clear, if_clear, place_of, verdict}
use Rattle.values.specs.Rate.{from_id}
use Rattle.values_time.specs.Time.{digits, time_read}
use Rattle.service_entry.specs.Entry.{entry_read}
use Rattle.service_entries.specs.Entries.{section_checks, filled}
use Rattle.service_list.specs.Section.{list_of, section_read}
use Rattle.read_closing.specs.Closing.{closing_checks}
use Rattle.read_header.specs.Header.{flags_in}
use Rattle.read_packet.specs.Packet.{packet_checks}
use Rattle.reader.specs.Shown.{shown_by}
use Rattle.reader.specs.Reader.{buffer_after, cleared, read}
use Rattle.write_bytes.specs.PacketWriting.{packet_bytes, packet_written}
use Rattle.theorem_packet.specs.Cases.{Cases, Reads}
use Rattle.basis.specs.declared.answer.Answer.{Answer}
use Rattle.reader.specs.declared.parser.CDPParser.{CDPParser}

-- a verdict beside which nothing is handed out leaves a buffer as it was
stays : (v : Verdict) (buffer : List ℕ) → if_clear v (over 0 [] buffer) buffer ≡ buffer
stays clear buffer = over_nil 0 buffer
stays (broken rule) buffer = refl

-- reading a packet with no captions comes to what rules 2 to 9 say of it
reads : {p : List ℕ} {answered : Answer} {at : ℕ} {after : CDPParser → CDPParser} → (flags_in p).cc_data ≡ false
    → answer (verdict (packet_checks p)) 0 ≡ answered → place_of (verdict (packet_checks p)) ≡ at
    → ((s : CDPParser) → if_clear (verdict (packet_checks p)) (shown_by p) (cleared s) ≡ after s) → Reads p answered at after
unfolding read buffer_after
reads {p} none answers stands leaves =
    record {
      gives = λ s buffer room. simp (le-leb _ _ room, none, answers, stands, leaves s);
      keeps = λ buffer room. simp (le-leb _ _ room, none) (stays (verdict (packet_checks p)) buffer);
    }

pub cases : Cases
unfolding packet_checks shown_by closing_checks from_id time_read digits entry_read section_read section_checks list_of
    filled packet_written packet_bytes
cases =
    record {
      p1 = reads refl refl refl (λ s. refl);
      p2 = reads refl refl refl (λ s. refl);
      p3 = reads refl refl refl (λ s. refl);
      p4 = reads refl refl refl (λ s. refl);
      p5 = reads refl refl refl (λ s. refl);
      p6 = λ last. reads refl refl refl (λ s. refl);
      p7 = reads refl refl refl (λ s. refl);
      p8 = λ minutes seconds frames h. rw h;
      p8_packet = reads refl refl refl (λ s. refl);
      p9 = record { gives = refl; has = refl };
      p10 = record { gives = refl; has = refl };
      p10_field_2 = refl;
      p11 = record { gives = refl; has = refl };
      p12 = λ buffer room. simp (le-leb _ _ room);
    }
