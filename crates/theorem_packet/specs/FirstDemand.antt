-- The first demand: an answer of the table for everything, what a refusal writes, and what a reader's refusal leaves.
use Rattle.std.specs.Prelude.{Bool, true, false, cond, not, ◌&&◌, ◌||◌, List, ◌≡◌, ℕ, ◌+◌, ◌*◌, ◌<◌, eqb, leb, ltb, length}
use Rattle.basis.specs.Check.{read_answer, write_answer}
use Rattle.basis.specs.Code.{part_answer, put, put_answer}
use Rattle.values_time.specs.Time as Time
use Rattle.service_entry.specs.Entry as Entry
use Rattle.service_entry.specs.Code as ServiceEntryCode
use Rattle.service_entry.specs.EntryWriting as EntryWriting
use Rattle.service_entries.specs.Code as ServiceEntries
use Rattle.service_list.specs.Section as Section
use Rattle.service_list.specs.ServiceList as ServiceList
use Rattle.service_list.specs.SectionWriting as SectionWriting
use Rattle.service_list.specs.Code as ServiceListCode
use Rattle.read_captions.specs.Code as ReadCaptions
use Rattle.read_header.specs.Code as ReadHeader
use Rattle.read_time_code.specs.Code as ReadTimeCode
use Rattle.read_closing.specs.Code as ReadClosing
use Rattle.read_services.specs.Code as ReadServices
use Rattle.read_packet.specs.Code as ReadPacket
use Rattle.read_packet.specs.Packet.{captions_length}
use Rattle.reader.specs.Code as ReaderCode
use Rattle.reader.specs.Reader.{buffer_after, cleared, read}
use Rattle.write_checks.specs.Code as WriteChecks
use Rattle.text.specs.Whole.{text_written}
use Rattle.writer.specs.Writer.{held_written, set_service_info}
use Rattle.basis.specs.declared.answer.Answer.{Answer}
use Rattle.service_entry.specs.declared.entry.ServiceEntry.{ServiceEntry}
use Rattle.reader.specs.declared.parser.CDPParser.{CDPParser}
use Rattle.service_list.specs.declared.list.MaybeServiceInfo.{MaybeServiceInfo}
use Rattle.service_list.specs.declared.list.ServiceInfo.{ServiceInfo}
use Rattle.values_time.specs.declared.time.MaybeTimeCode.{MaybeTimeCode}
use Rattle.values_time.specs.declared.time.TimeCode.{TimeCode}
use Rattle.values.specs.declared.flags.Flags.{Flags}
use Rattle.values.specs.declared.framerate.Framerate.{Framerate}
use Rattle.writer.specs.declared.writer.CDPWriter.{CDPWriter}

-- what may stand beside 1, the size expected and the size met. The two differ: byte 2 of a packet is held to its size, and by
-- S4 the size of a section alone to its count
abbrev pub differ : ℕ → ℕ → Bool
differ first second = not (eqb first second)

-- the second is the smaller: in a part of a packet behind its header, at least so many bytes are to be there
abbrev pub smaller : ℕ → ℕ → Bool
smaller first second = ltb second first

-- or 1 is not answered at all
abbrev pub never : ℕ → ℕ → Bool
never first second = false

-- a refusal's number and both values stand in the table of answers: beside 1 what may stand there, beside 11 the second is the smaller
abbrev pub refusal_in_table : (ℕ → ℕ → Bool) → Answer → Bool
refusal_in_table beside a =
    cond (eqb a.number 1) (beside a.first a.second)
    (cond (eqb a.number 11) (smaller a.first a.second)
    (cond (eqb a.number 10) (eqb a.first 1 && eqb a.second 0)
    (leb a.number 13 && (eqb a.first 0 && eqb a.second 0))))

-- so do those of any answer; with 0 goes a length, and 0 from a call that has none to give
abbrev pub in_table : Bool → (ℕ → ℕ → Bool) → Answer → Bool
in_table measured beside a =
    cond (eqb a.number 0) ((measured || eqb a.first 0) && eqb a.second 0) (refusal_in_table beside a)

abbrev pub refuses : Answer → Type 0
refuses a = eqb a.number 0 ≡ false

pub record FirstDemand : Type 0 where
  -- whatever is read, whatever the state and however many caption bytes are lent
  pub packet_read : (s : CDPParser) (p : List ℕ) (room : ℕ) → in_table true differ (read s p room).answer ≡ true
  pub section_read : (d : List ℕ) → in_table false differ (read_answer (Section.section_read d) 0) ≡ true
  pub entry_read : (bytes : List ℕ) → in_table false never (read_answer (Entry.entry_read bytes) 0) ≡ true
  pub time_read : (hours minutes seconds frames : ℕ)
      → in_table false never (read_answer (Time.time_read hours minutes seconds frames) 0) ≡ true
  -- the parts of a packet, each read at any place, and the packet before its list is made and with no state
  pub header_read : (p : List ℕ) → in_table false differ (read_answer (ReadHeader.header_read p) 0) ≡ true
  pub time_code_read : (p : List ℕ) (present : Bool) (i : ℕ)
      → in_table false smaller (ReadTimeCode.time_code_answer p present i) ≡ true
  pub captions_tested : (p : List ℕ) (present : Bool) (i : ℕ)
      → in_table false smaller (part_answer (ReadCaptions.captions_tested p present i)) ≡ true
  pub services_tested : (p : List ℕ) (f : Flags) (i : ℕ)
      → in_table false smaller (part_answer (ReadServices.services_tested p f i)) ≡ true
  pub closing_read : (p : List ℕ) (sequence i : ℕ)
      → in_table false smaller (read_answer (ReadClosing.closing_read p sequence i) 0) ≡ true
  pub section_tested : (d : List ℕ) → in_table false differ (read_answer (ServiceEntries.section_outcome d) 0) ≡ true
  pub entries_read : (d : List ℕ) → in_table false differ (read_answer (ServiceEntries.entries_read d) 0) ≡ true
  pub checked_read : (p : List ℕ) → in_table true differ (read_answer (ReadPacket.checked_read p) (captions_length p)) ≡ true
  pub stateless_read : (p : List ℕ) → in_table true differ (read_answer (ReaderCode.packet_read p) (captions_length p)) ≡ true
  -- whatever is to be written, or held, and whatever buffer is lent
  pub packet_answered : (w : CDPWriter) (rate : Framerate) (captions buffer : List ℕ)
      → in_table true never (held_written w rate captions buffer).answer ≡ true
  pub others_tested : (rate : Framerate) (time : MaybeTimeCode) (run : ℕ)
      → in_table false never (WriteChecks.others_write_tested rate time run).answer ≡ true
  pub section_answered : (l : ServiceInfo) (buffer : List ℕ) → in_table true never (SectionWriting.section_written l buffer).answer ≡ true
  pub entry_answered : (e : ServiceEntry) (buffer : List ℕ) → in_table true never (EntryWriting.entry_written e buffer).answer ≡ true
  pub time_answered : (t : TimeCode) → in_table false never (write_answer (Time.time_written t) 0) ≡ true
  pub list_added : (l : ServiceInfo) (e : ServiceEntry) → in_table false never (ServiceList.added l e).answer ≡ true
  pub list_measured : (l : ServiceInfo) → in_table true never (ServiceList.byte_len l) ≡ true
  pub list_tested : (l : ServiceInfo) → in_table false never (ServiceListCode.value_answer l) ≡ true
  pub list_set : (w : CDPWriter) (services : MaybeServiceInfo) → in_table false never (set_service_info w services).answer ≡ true
  pub bytes_put : (at : ℕ) (bytes buffer : List ℕ) → in_table false never (put_answer at bytes buffer) ≡ true
  -- whatever text, a dump's too
  pub text_answered : (text buffer : List ℕ) → in_table true never (text_written text buffer).answer ≡ true
  -- a refusal writes no byte of a lent buffer
  pub reader_writes : (s : CDPParser) (p buffer : List ℕ) → refuses (read s p (length buffer)).answer → buffer_after p buffer ≡ buffer
  pub packet_writes : (w : CDPWriter) (rate : Framerate) (captions buffer : List ℕ)
      → refuses (held_written w rate captions buffer).answer → (held_written w rate captions buffer).buffer ≡ buffer
  pub section_writes : (l : ServiceInfo) (buffer : List ℕ)
      → refuses (SectionWriting.section_written l buffer).answer → (SectionWriting.section_written l buffer).buffer ≡ buffer
  pub entry_writes : (e : ServiceEntry) (buffer : List ℕ)
      → refuses (EntryWriting.entry_written e buffer).answer → (EntryWriting.entry_written e buffer).buffer ≡ buffer
  pub entries_writes : (services : List ServiceEntry) (count at : ℕ) (buffer : List ℕ)
      → ServiceEntryCode.places_writable services count ≡ false
      → ServiceEntryCode.entries_left services count at buffer ≡ buffer
  pub entries_fit : (services : List ServiceEntry) (count at : ℕ) (buffer : List ℕ)
      → length buffer < at + EntryWriting.seven_length * count
      → ServiceEntryCode.entries_left services count at buffer ≡ buffer
  pub put_writes : (at : ℕ) (bytes buffer : List ℕ) → refuses (put_answer at bytes buffer) → put at bytes buffer ≡ buffer
  pub text_writes : (text buffer : List ℕ) → refuses (text_written text buffer).answer → (text_written text buffer).buffer ≡ buffer
  -- a reader's refusal clears rate, time code and sequence, turns the caption-active mark off and keeps the list; 11 changes
  -- nothing, the mark neither
  pub reader_clears : (s : CDPParser) (p buffer : List ℕ) → refuses (read s p (length buffer)).answer
      → eqb (read s p (length buffer)).answer.number 11 ≡ false → (read s p (length buffer)).parser ≡ cleared s
  pub active_off : (s : CDPParser) (p buffer : List ℕ) → refuses (read s p (length buffer)).answer
      → eqb (read s p (length buffer)).answer.number 11 ≡ false → (read s p (length buffer)).parser.caption_active ≡ false
  pub reader_stays : (s : CDPParser) (p buffer : List ℕ) → (read s p (length buffer)).answer.number ≡ 11
      → (read s p (length buffer)).parser ≡ s
  pub active_stays : (s : CDPParser) (p buffer : List ℕ) → (read s p (length buffer)).answer.number ≡ 11
      → (read s p (length buffer)).parser.caption_active ≡ s.caption_active
