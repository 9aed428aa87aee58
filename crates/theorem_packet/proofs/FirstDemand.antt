-- The first demand holds: every answer is that of a verdict, and a broken verdict leaves a buffer as it was.
-- Assumes nothing.
use mathlib.Core.Bool.{Bool, true, false, ◌||◌}
use mathlib.Core.List.{List, [], ◌∷◌, ◌++◌}
use mathlib.Core.Path.{◌≡◌, refl, sym, ap}
use Prim.Native.Nat.{ℕ, ◌-◌}
use lib.Dec.{eqb, leb, ltb}
use lib.ListN.{length}
use Rattle.basis.proofs.Holds.{So, held, none, where_there}
use Rattle.basis.proofs.Readings.{answer_read, answer_written, part_answered}
use Rattle.basis.proofs.Verdicts.{refused_not_done, refused_shows}
use Rattle.basis.specs.Check.{Check, CheckOf, VerdictOf, WriteVerdict, answer, broken, clear, read_answer, read_as, room_check, verdict}
use Rattle.basis.specs.Bytes.{over}
use Rattle.basis.specs.Code.{fitting, part_answer, put, put_answer}
use Rattle.values_time.specs.Time as Time
use Rattle.service_entry.specs.Entry as Entry
use Rattle.basis.specs.Writing.{written}
use Rattle.service_entry.proofs.EntriesWrites.{no_room_left, none_left}
use Rattle.service_entry.specs.EntryWriting.{entry_bytes, entry_check, entry_written}
use Rattle.service_list.specs.Section as Section
use Rattle.service_entries.specs.Entries.{places}
use Rattle.service_entries.specs.Code.{entries_read, section_outcome}
use Rattle.service_list.specs.SectionWriting.{section_bytes, section_written, value_checks}
use Rattle.service_list.specs.ServiceList.{list_absent}
use Rattle.service_list.specs.Code.{value_answer}
use Rattle.reader.proofs.Refusals as Refusals
use Rattle.read_captions.specs.Code as ReadCaptions
use Rattle.read_header.specs.Code as ReadHeader
use Rattle.read_time_code.specs.Code as ReadTimeCode
use Rattle.read_closing.specs.Code as ReadClosing
use Rattle.read_services.specs.Code as ReadServices
use Rattle.read_packet.specs.Code as ReadPacket
use Rattle.read_packet.specs.Packet.{captions_length}
use Rattle.reader.specs.Code.{packet_read}
use Rattle.reader.specs.Reader.{read}
use Rattle.write_bytes.proofs.PacketWrites as PacketWrites
use Rattle.write_checks.specs.Checks as Checks
use Rattle.write_checks.specs.Code as WriteChecks
use Rattle.write_bytes.specs.PacketWriting as Writing
use Rattle.text.specs.Whole.{text_written}
use Rattle.writer.specs.Writer.{set_service_info}
use Rattle.theorem_packet.proofs.Proper.{
  Proper,
  captions_proper,
  closing_proper,
  entry_proper,
  entry_write_proper,
  header_proper,
  overflow_proper,
  packet_proper,
  packet_write_proper,
  proper,
  read_proper,
  room,
  section_proper,
  services_proper,
  set_proper,
  shorter_smaller,
  time_code_proper,
  time_proper,
  time_write_proper,
  value_proper,
  with_room,
}
use Rattle.theorem_packet.specs.FirstDemand.{FirstDemand, differ, in_table, never, refuses, smaller}
use Rattle.basis.specs.declared.answer.Answer.{Answer}
use Rattle.reader.specs.declared.parser.CDPParser.{CDPParser}
use Rattle.values.specs.Layout.{section_length}
use Rattle.service_entry.specs.declared.entry.ServiceEntry.{ServiceEntry}
use Rattle.service_list.specs.declared.list.ServiceInfo.{ServiceInfo}

-- an answer of checks that are refused as the table has it: of a call that gives a length with 0,
-- and of one that gives 0
in_table_lem : {P : Type 0} (measured : Bool) (beside : ℕ → ℕ → Bool) (v : VerdictOf P) (length : ℕ) → held (So (proper beside)) v
    → (measured || eqb length 0) ≡ true
    → in_table measured beside (answer v length) ≡ true
in_table_lem measured beside clear length f h = rw h
in_table_lem measured beside (broken rule) length f h = rw (refused_not_done rule.refusal) f

with_length : {P : Type 0} (beside : ℕ → ℕ → Bool) {cs : List (CheckOf P)} → Proper beside cs → (length : ℕ)
    → in_table true beside (answer (verdict cs) length) ≡ true
with_length beside {cs} a length = in_table_lem true beside (verdict cs) length a.it refl

without : {P : Type 0} (beside : ℕ → ℕ → Bool) {cs : List (CheckOf P)} → Proper beside cs
    → in_table false beside (answer (verdict cs) 0) ≡ true
without beside {cs} a = in_table_lem false beside (verdict cs) 0 a.it refl

-- so what reading gives, of a call that gives a length with 0, of one that gives 0, and of a part
read_with_length : {cs : List Check} → Proper differ cs → {A : Type 0} (value : A) (length : ℕ)
    → in_table true differ (read_answer (read_as (verdict cs) value) length) ≡ true
read_with_length {cs} a value length = rw (answer_read (verdict cs) value length) (with_length differ a length)

read_without : (beside : ℕ → ℕ → Bool) {cs : List Check} → Proper beside cs → {A : Type 0} (value : A)
    → in_table false beside (read_answer (read_as (verdict cs) value) 0) ≡ true
read_without beside {cs} a value = rw (answer_read (verdict cs) value 0) (without beside a)

part_in_table : {cs : List Check} → Proper smaller cs → (size : ℕ)
    → in_table false smaller (part_answer (read_as (verdict cs) size)) ≡ true
part_in_table {cs} a size = rw (part_answered (verdict cs) size) (without smaller a)

-- a writer that is refused leaves the buffer as it was
left : (v : WriteVerdict) (bytes buffer : List ℕ) → refuses (written v bytes buffer).answer
    → (written v bytes buffer).buffer ≡ buffer
left v bytes buffer h =
    sym (refused_shows (λ (a : Answer) (b : List ℕ). b) v (length bytes) 0 (over 0 bytes buffer) buffer h)

-- the verdicts of the two writers that write no packet, room among them
abbrev section_verdict : ServiceInfo → List ℕ → WriteVerdict
section_verdict l buffer = verdict (value_checks l ++ room_check (section_length l.count) (length buffer) ∷ [])

abbrev entry_verdict : ServiceEntry → List ℕ → WriteVerdict
entry_verdict e buffer = verdict (entry_check e ∷ room_check 6 (length buffer) ∷ [])

pub first_demand : FirstDemand
unfolding read packet_read ReadHeader.header_read ReadTimeCode.time_code_read ReadCaptions.captions_tested
    ReadServices.services_tested ReadClosing.closing_read section_outcome entries_read Section.section_read Entry.entry_read
    Time.time_read Time.time_written Writing.packet_written section_written entry_written value_answer set_service_info
    WriteChecks.others_write_tested put_answer put text_written ReadPacket.checked_read
first_demand =
    record {
      packet_read = λ s p lent. with_length differ (read_proper p lent) (captions_length p);
      section_read = λ d. read_without differ (section_proper d) _;
      entry_read = λ bytes. read_without never (entry_proper never bytes) _;
      time_read = λ hours minutes seconds frames. read_without never (time_proper never hours minutes seconds frames) _;
      header_read = λ p. read_without differ (header_proper p) _;
      time_code_read = λ p present i.
          read_without smaller (where_there present (time_code_proper smaller shorter_smaller p i)) _;
      captions_tested = λ p present i. part_in_table (where_there present (captions_proper smaller shorter_smaller p i)) _;
      services_tested = λ p f i. part_in_table (where_there f.svc_info (services_proper smaller shorter_smaller p f i)) _;
      closing_read = λ p sequence i. read_without smaller (closing_proper smaller shorter_smaller p sequence i) tt;
      section_tested = λ d. read_without differ (section_proper d) tt;
      entries_read = λ d. read_without differ (section_proper d) _;
      checked_read = λ p. read_with_length (packet_proper p) _ (captions_length p);
      stateless_read = λ p. read_with_length (packet_proper p) _ (captions_length p);
      packet_answered = λ w rate captions buffer. with_length never
          (with_room never (Checks.packet_write_checks rate w.time_code w.service_info (length captions))
          (packet_write_proper never rate w.time_code w.service_info (length captions))
          (Checks.packet_length w.time_code w.service_info (length captions)) buffer)
          (Checks.packet_length w.time_code w.service_info (length captions));
      others_tested = λ rate time run. without never (packet_write_proper never rate time list_absent run);
      section_answered = λ l buffer.
          with_length never (with_room never (value_checks l) (value_proper never l) (section_length l.count) buffer)
          (length (section_bytes l));
      entry_answered = λ e buffer.
          with_length never (with_room never (entry_check e ∷ []) (entry_write_proper never e) 6 buffer) 6;
      time_answered = λ t.
          rw (answer_written (verdict (Time.time_write_checks t)) (Time.time_bytes t) 0) (without never (time_write_proper never t));
      list_added = λ l e. without never (overflow_proper never (ltb l.count places));
      list_measured = λ l. with_length never (overflow_proper never (leb l.count places)) (section_length l.count);
      list_tested = λ l. without never (value_proper never l);
      list_set = λ w services. without never (set_proper never services);
      bytes_put = λ at bytes buffer. without never (room never (length bytes) (length buffer - at) none);
      text_answered = λ text buffer. with_length never (room never (length text) (length buffer) none) (length text);
      reader_writes = Refusals.refusal_writes_nothing;
      packet_writes = λ w rate captions buffer.
          PacketWrites.refusal_writes_nothing rate w.sequence w.time_code w.service_info captions buffer;
      section_writes = λ l buffer. left (section_verdict l buffer) (section_bytes l) buffer;
      entry_writes = λ e buffer. left (entry_verdict e buffer) (entry_bytes e) buffer;
      entries_writes = λ services count at buffer h. sym (none_left count at services buffer h);
      entries_fit = λ services count at buffer h. sym (no_room_left count at services buffer h);
      put_writes = λ at bytes buffer h.
          sym
          (refused_shows (λ (a : Answer) (b : List ℕ). b) (fitting at bytes buffer) 0 0
          (over at bytes buffer) buffer h);
      text_writes = λ text buffer. left (verdict (room_check (length text) (length buffer) ∷ [])) text buffer;
      reader_clears = Refusals.refusal_clears;
      active_off = Refusals.refusal_turns_active_off;
      reader_stays = Refusals.eleven_changes_nothing;
      active_stays = λ s p buffer h. ap (λ (r : CDPParser). r.caption_active) (Refusals.eleven_changes_nothing s p buffer h);
    }
