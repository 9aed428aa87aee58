-- Writing a packet: what is left where a test is the first that fails, and where none does.
-- Assumes nothing.
use mathlib.Core.Path.{◌≡◌, ◌∙◌, sym, refl, ap, ap₂}
use mathlib.Core.Bool.{true, false, true≢false}
use mathlib.Core.List.{List, [], ◌∷◌, ◌++◌, append_assoc, append-nil}
use Prim.Native.Nat.{ℕ, ◌+◌, ◌-◌, ◌≤◌}
use native.Mathlib.Omega.{arith}
use borrow.Author.Tests.{leb-true}
use lib.Dec.{eqb}
use lib.ListN.{length}
use Rattle.basis.proofs.Verdicts.{and_then, append_first, append_second, done_clear, kept_at_lem, refused_shows, verdict_append}
use Rattle.basis.specs.Answer.{done}
use Rattle.basis.specs.declared.refusal.Refusal.TheVariants.{UnknownFramerate, WrongCaptionRun}
use Rattle.basis.specs.Bytes.{over}
use Rattle.basis.specs.Check.{WriteCheck, WriteVerdict, answer, broken, check, clear, room_check, verdict}
use Rattle.basis.proofs.Writes.{Leaves, room_done, room_last}
use Rattle.basis.specs.Writing.{Written, written}
use Rattle.values.specs.Layout.{footer_size}
use Rattle.service_list.specs.ServiceList.{list_absent}
use Rattle.write_checks.proofs.Tests.{Accepted, accepted, length_most, time_code_most}
use Rattle.write_bytes.proofs.Parts.{packet_length_lem}
use Rattle.write_bytes.proofs.ServicesWrites.{first_refused, left}
use Rattle.values.specs.Rate.{known}
use Rattle.write_checks.specs.Checks.{
  full_triplets,
  packet_write_checks,
  packet_length,
  services_length,
  services_write_checks,
  time_code_write_checks,
}
use Rattle.write_checks.specs.Code.{others_write_tested}
use Rattle.write_bytes.specs.Code.{most_others, services_put, services_verdict}
use Rattle.write_bytes.specs.PacketWriting.{packet_bytes, packet_written, services_bytes}
use Rattle.basis.specs.declared.answer.Answer.{Answer}
use Rattle.values.specs.declared.framerate.Framerate.{Framerate}
use Rattle.service_list.specs.declared.list.MaybeServiceInfo.{MaybeServiceInfo}
use Rattle.values_time.specs.declared.time.MaybeTimeCode.{MaybeTimeCode}

-- a refusal leaves the buffer, whatever would have been put
either_refused : (v : WriteVerdict) (n : ℕ) (after other buffer : List ℕ) → eqb (answer v n).number 0 ≡ false
    → Leaves (left v n after buffer) (left v n other buffer).answer (left v n other buffer).buffer
either_refused clear n after other buffer h = absurd (true≢false h)
either_refused (broken rule) n after other buffer h = (refl, refl)

-- the other parts have a footer, and are not long
pub others_few : (rate : Framerate) (time : MaybeTimeCode) (run : ℕ)
    → verdict (packet_write_checks rate time list_absent run) ≡ clear
    → (footer_size ≤ packet_length time list_absent run) × (packet_length time list_absent run ≤ most_others)
others_few rate time run right =
    (omega arith, omega (arith, (accepted rate time list_absent run right).short, time_code_most time))

-- what holds where every test is passed: of the packet, of what putting its services gives, and of what is to be left
pub record Passed (rate : Framerate) (sequence : ℕ) (time : MaybeTimeCode) (services : MaybeServiceInfo)
    (captions buffer : List ℕ) : Type 0 where
  pub tested : Accepted rate time services (length captions)
  pub short : packet_length time services (length captions) ≤ 218
  pub room : packet_length time services (length captions) ≤ length buffer
  pub size : (services_put services (packet_length time list_absent (length captions)) buffer).answer
      ≡ done (packet_length time services (length captions))
  pub section : (services_put services (packet_length time list_absent (length captions)) buffer).buffer
      ≡ over (packet_length time list_absent (length captions) - footer_size) (services_bytes services) buffer
  pub leaves : Leaves (packet_written rate sequence time services captions buffer)
      (done (packet_length time services (length captions)))
      (over 0 (packet_bytes rate sequence time services captions) buffer)

module _ (rate : Framerate) (sequence : ℕ) (time : MaybeTimeCode) (services : MaybeServiceInfo)
    (captions buffer : List ℕ) where
  abbrev run : ℕ
  run = length captions

  -- the packet, how long it is without its services, and what is left
  abbrev bytes : List ℕ
  bytes = packet_bytes rate sequence time services captions

  abbrev others : ℕ
  others = packet_length time list_absent run

  abbrev all : Written
  all = packet_written rate sequence time services captions buffer

  -- the checks are those of the packet without its list, and then the list's
  checks_split : packet_write_checks rate time services run
      ≡ packet_write_checks rate time list_absent run ++ services_write_checks services
  checks_split =
      ap (λ (ts : List WriteCheck).
      check (known rate) UnknownFramerate
      ∷ check (full_triplets run) WrongCaptionRun
      ∷ ts
      ++ services_write_checks services)
      (sym (append-nil (time_code_write_checks time)))

  long : packet_length time services run ≡ others + services_length services
  long = omega arith

  as_parts : all
      ≡ left (and_then (verdict (packet_write_checks rate time list_absent run)) (services_verdict services others (length buffer)))
      (others + services_length services)
      (over 0 bytes buffer)
      buffer
  unfolding packet_written
  as_parts =
      let first : List WriteCheck = packet_write_checks rate time list_absent run in
      let then : ℕ → List WriteCheck = λ (n : ℕ). room_check n (length buffer) ∷ [] in
      let v : WriteVerdict = verdict (packet_write_checks rate time services run ++ then (packet_length time services run)) in
      let in_turn : v ≡ and_then (verdict first) (services_verdict services others (length buffer)) =
      ap₂ (λ (cs : List WriteCheck) (n : ℕ). verdict (cs ++ then n)) checks_split long
      ∙ ap verdict (append_assoc first (services_write_checks services) (then (others + services_length services)))
      ∙ verdict_append first (services_write_checks services ++ then (others + services_length services)) in
      ap₂ (λ (u : WriteVerdict) (n : ℕ). left u n (over 0 bytes buffer) buffer) in_turn long

  pub others_refused : eqb (others_write_tested rate time run).answer.number 0 ≡ false
      → Leaves all (others_write_tested rate time run).answer buffer
  unfolding others_write_tested
  others_refused h = rw as_parts (first_refused (verdict (packet_write_checks rate time list_absent run)) _ 0 _ _ buffer h)

  module _ (right : verdict (packet_write_checks rate time list_absent run) ≡ clear) where
    abbrev then : WriteVerdict
    then = services_verdict services others (length buffer)

    as_services : all ≡ left then (others + services_length services) (over 0 bytes buffer) buffer
    as_services =
        as_parts
        ∙ ap (λ (v : WriteVerdict). left (and_then v then) (others + services_length services) (over 0 bytes buffer) buffer)
        right

    pub services_refused : eqb (services_put services others buffer).answer.number 0 ≡ false
        → Leaves all (services_put services others buffer).answer (services_put services others buffer).buffer
    unfolding services_put
    services_refused h = rw as_services (either_refused then _ _ _ buffer h)

    -- where the services are put, every test is passed
    pub all_passed : eqb (services_put services others buffer).answer.number 0 ≡ true
        → Passed rate sequence time services captions buffer
    unfolding services_put
    all_passed put =
        let room : List WriteCheck = room_check (others + services_length services) (length buffer) ∷ [] in
        let put_clear : then ≡ clear = done_clear then (others + services_length services) put in
        let clears : verdict (packet_write_checks rate time services run) ≡ clear =
        ap verdict checks_split
        ∙ verdict_append (packet_write_checks rate time list_absent run) (services_write_checks services)
        ∙ ap₂ (λ (v w : WriteVerdict). and_then v w) right (append_first (services_write_checks services) room put_clear) in
        record {
          tested = accepted rate time services run clears;
          short = length_most rate time services run clears;
          room = rw long (leb-true _ _ (kept_at_lem 0 room (append_second (services_write_checks services) room put_clear)));
          size = rw (put_clear, long);
          section = rw put_clear;
          leaves = rw (as_services, put_clear) (ap done long, refl);
        }

  -- the packet has the length that goes with 0, so that writing one is as writing anything that tests the room last
  as_written : room_last (packet_write_checks rate time services run) (packet_length time services run) bytes buffer ≡ all
  unfolding packet_written
  as_written =
      let v : WriteVerdict =
      verdict (packet_write_checks rate time services run
      ++ room_check (packet_length time services run) (length buffer) ∷ []) in
      ap (λ (n : ℕ). left v n (over 0 bytes buffer) buffer) (packet_length_lem rate sequence time services captions)

  -- where writing answers 0 the checks are clear, and the packet stands at the start of the buffer
  pub packet_done : eqb all.answer.number 0 ≡ true
      → (verdict (packet_write_checks rate time services run) ≡ clear) × (all ≡ written clear bytes buffer)
  packet_done h =
      let both =
      room_done (packet_write_checks rate time services run) (packet_length time services run) bytes buffer
      (rw (← as_written) at h) in
      (both.0, sym as_written ∙ both.1)

  -- The longest packet that is ever written has 218 bytes.
  pub written_most : eqb all.answer.number 0 ≡ true → all.answer.first ≤ 218
  written_most h =
      let both = packet_done h in
      let size : all.answer.first ≡ packet_length time services run =
      ap (λ (r : Written). r.answer.first) both.1 ∙ packet_length_lem rate sequence time services captions in
      rw size (length_most rate time services run both.0)

  -- A refusal writes no byte.
  pub refusal_writes_nothing : eqb all.answer.number 0 ≡ false → all.buffer ≡ buffer
  unfolding packet_written
  refusal_writes_nothing h =
      let v : WriteVerdict =
      verdict (packet_write_checks rate time services run
      ++ room_check (packet_length time services run) (length buffer) ∷ []) in
      sym (refused_shows (λ (a : Answer) (b : List ℕ). b) v (packet_length time services run) 0 (over 0 bytes buffer) buffer h)
