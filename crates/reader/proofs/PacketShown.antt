-- What a packet shows: its checks decide, and the list is what its bytes hold.
-- Assumes nothing.
use mathlib.Core.Bool.{true, false, true≢false}
use mathlib.Core.List.{List}
use mathlib.Core.Path.{◌≡◌, ◌∙◌, ap, refl, subst, sym}
use Prim.Native.Nat.{ℕ}
use lib.Bits.{bit_and}
use lib.Dec.{eqb}
use Rattle.std.specs.Prelude.{Result, Ok, Err, Some}
use Rattle.basis.proofs.Masks.{masks}
use Rattle.basis.proofs.Readings.{answer_read, given_clear, given_value, place_read, refused_alone}
use Rattle.basis.proofs.Verdicts.{done_clear, when_there}
use Rattle.basis.specs.Answer.{refused}
use Rattle.basis.specs.Bytes.{byte}
use Rattle.basis.specs.Check.{Verdict, answer, broken, clear, place_of, read_answer, read_as, read_place, refused_at, verdict}
use Rattle.basis.specs.declared.answer.Answer.{Answer}
use Rattle.basis.specs.declared.refusal.Refused.{Refused}
use Rattle.read_header.proofs.HeaderReads.{rate_there}
use Rattle.read_header.specs.Header.{flags_in, rate_of}
use Rattle.read_header.specs.Code.{rate_in}
use Rattle.read_services.specs.Services.{services_checks}
use Rattle.read_packet.proofs.PacketReads.{header_of_packet, services_of_packet}
use Rattle.read_packet.specs.Packet.{packet_checks, services_at}
use Rattle.read_packet.specs.Code.{checked_read, checked_shown}
use Rattle.reader.specs.Shown.{shown_by}
use Rattle.reader.specs.Code.{packet_read, stateless_shown}
use Rattle.reader.specs.declared.packet_read.PacketRead.{PacketRead}
use Rattle.read_packet.specs.declared.checked.Checked.{Checked}
use Rattle.values.specs.declared.flags.Flags.{Flags}

-- a refusal with just this answer and this place, and that is all that is given
abbrev pub RefusesPacket : Result PacketRead Refused → Answer → ℕ → Type 0
RefusesPacket got a place = (r : Refused) × refused r.refusal ≡ a × r.place ≡ place × Err r ≡ got

none : (v : Verdict) (length : ℕ) (shown : PacketRead) → eqb (read_answer (read_as v shown) length).number 0 ≡ false
    → RefusesPacket (read_as v shown) (read_answer (read_as v shown) length) (read_place (read_as v shown))
none clear length shown h = absurd (true≢false h)
none (broken rule) length shown h = (refused_at rule.refusal rule.at.place, refl, refl, refl)

module _ (p : List ℕ) where
  -- with no state a packet is answered as its verdict is, and so before its list is made
  pub packet_answer : (length : ℕ) → read_answer (packet_read p) length ≡ answer (verdict (packet_checks p)) length
  unfolding packet_read
  packet_answer length = answer_read (verdict (packet_checks p)) (stateless_shown p) length

  pub packet_place : read_place (packet_read p) ≡ place_of (verdict (packet_checks p))
  unfolding packet_read
  packet_place = place_read (verdict (packet_checks p)) (stateless_shown p)

  pub checks_answer : (length : ℕ) → read_answer (checked_read p) length ≡ read_answer (packet_read p) length
  unfolding checked_read
  checks_answer length = answer_read (verdict (packet_checks p)) (checked_shown p) length ∙ sym (packet_answer length)

  pub checks_place : read_place (checked_read p) ≡ read_place (packet_read p)
  unfolding checked_read
  checks_place = place_read (verdict (packet_checks p)) (checked_shown p) ∙ sym packet_place

  -- the packet's values, once its tests are clear
  pub checked_clear : verdict (packet_checks p) ≡ clear → checked_read p ≡ Ok (checked_shown p)
  unfolding checked_read
  checked_clear v = rw v

  -- a packet's answer decides what it shows, whatever length goes with 0
  module _ (length : ℕ) where
    pub none_shown : eqb (read_answer (packet_read p) length).number 0 ≡ false
        → RefusesPacket (packet_read p) (read_answer (packet_read p) length) (read_place (packet_read p))
    unfolding packet_read
    none_shown h = none (verdict (packet_checks p)) length (stateless_shown p) h

    module _ (done : eqb (read_answer (packet_read p) length).number 0 ≡ true) where
      pub packet_clear : verdict (packet_checks p) ≡ clear
      packet_clear =
          done_clear (verdict (packet_checks p)) length (ap (λ (a : Answer). eqb a.number 0) (sym (packet_answer length)) ∙ done)

      pub all_shown : Ok (stateless_shown p) ≡ packet_read p
      unfolding packet_read
      all_shown = ap (λ v. read_as v (stateless_shown p)) (sym packet_clear)

      pub accepts : checked_read p ≡ Ok (checked_shown p)
      accepts = checked_clear packet_clear

  -- a packet whose tests give this
  module _ (read : Checked) (read_so : checked_read p ≡ Ok read) where
    pub tests_clear : verdict (packet_checks p) ≡ clear
    unfolding checked_read
    tests_clear = given_clear _ (verdict (packet_checks p)) (checked_shown p) read read_so

    pub shows : read ≡ checked_shown p
    unfolding checked_read
    shows = given_value _ (verdict (packet_checks p)) (checked_shown p) read read_so

    pub packet_whole : Ok (stateless_shown p) ≡ packet_read p
    unfolding packet_read
    packet_whole = ap (λ v. read_as v (stateless_shown p)) (sym tests_clear)

  pub packet_refused : (r : Refused) → checked_read p ≡ Err r → Err r ≡ packet_read p
  unfolding checked_read packet_read
  packet_refused r h = refused_alone _ (verdict (packet_checks p)) (checked_shown p) (stateless_shown p) r h

  -- an accepted packet has a rate
  pub rate_shown : verdict (packet_checks p) ≡ clear → Some (rate_in p) ≡ rate_of p
  rate_shown h = rate_there p (header_of_packet p h)

  -- the caption-active mark is the bit under 02 of byte 4: the table's seventh row
  pub active_bit : (shown_by p).caption_active ≡ eqb (bit_and (byte p 4) 0x02) 0x02
  unfolding shown_by
  active_bit = masks.1.1.1.1.1.1.0.set (byte p 4)

  list_kept : verdict (packet_checks p) ≡ clear → (flags_in p).svc_info ≡ true
      → verdict (services_checks p (flags_in p) (services_at p)) ≡ clear
  list_kept v on =
      when_there (flags_in p).svc_info (services_checks p (flags_in p) (services_at p)) on (services_of_packet p v)

  -- the same of flags and a place that are the packet's
  pub kept_so : (f : Flags) (i : ℕ) → verdict (packet_checks p) ≡ clear → f ≡ flags_in p → i ≡ services_at p
      → f.svc_info ≡ true → verdict (services_checks p f i) ≡ clear
  kept_so f i v fe ie =
      subst (λ (g : Flags). g.svc_info ≡ true → verdict (services_checks p g i) ≡ clear) (sym fe)
      (subst (λ (j : ℕ). (flags_in p).svc_info ≡ true → verdict (services_checks p (flags_in p) j) ≡ clear) (sym ie)
      (list_kept v))
