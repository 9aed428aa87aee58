-- Nothing comes from bytes that were refused: of every call whose result holds a list, an entry or a time code read from bytes.
use Rattle.std.specs.Prelude.{Bool, List, ◌≡◌, ℕ, ◌+◌, None, length}
use Rattle.std.specs.Result.{result_ok}
use Rattle.basis.specs.Bytes.{byte}
use Rattle.basis.specs.Check.{read_answer}
use Rattle.values_time.specs.Time as Time
use Rattle.service_entry.specs.Entry as Entry
use Rattle.service_entry.specs.Service.{entry_shown, filler}
use Rattle.service_entries.specs.Code as ServiceEntries
use Rattle.service_list.specs.Section as Section
use Rattle.service_list.specs.ServiceList.{empty, list_absent, list_shown}
use Rattle.read_time_code.specs.Code as ReadTimeCode
use Rattle.read_closing.specs.Closing.{checksum_of}
use Rattle.read_packet.specs.Code as ReadPacket
use Rattle.read_packet.specs.Packet.{footer_at}
use Rattle.reader.specs.Code as ReaderCode
use Rattle.reader.specs.Shown.{fresh_reader}
use Rattle.reader.specs.Reader.{read}
use Rattle.theorem_packet.specs.FirstDemand.{refuses}
use Rattle.reader.specs.declared.parser.CDPParser.{CDPParser}

pub record NothingFromRefused : Type 0 where
  -- an entry, the entries of a section, a section: beside a refusal there is none
  pub entry_read : (bytes : List ℕ) → refuses (read_answer (Entry.entry_read bytes) 0) → result_ok (Entry.entry_read bytes) ≡ None
  pub entries_read : (d : List ℕ)
      → refuses (read_answer (ServiceEntries.entries_read d) 0) → result_ok (ServiceEntries.entries_read d) ≡ None
  pub section_read : (d : List ℕ) → refuses (read_answer (Section.section_read d) 0) → result_ok (Section.section_read d) ≡ None
  -- and what is shown in the place of an entry is the filler, in that of a list the empty one
  pub entry_is_filler : (bytes : List ℕ)
      → refuses (read_answer (Entry.entry_read bytes) 0) → entry_shown (Entry.entry_read bytes) ≡ filler
  pub list_is_empty : (d : List ℕ) → refuses (read_answer (Section.section_read d) 0) → list_shown (Section.section_read d) ≡ empty
  -- a packet read with no state shows nothing; and what a new reader shows has no list
  pub stateless_read : (p : List ℕ) → refuses (read_answer (ReaderCode.packet_read p) 0) → result_ok (ReaderCode.packet_read p) ≡ None
  pub no_list : fresh_reader.service_info ≡ list_absent
  -- a reader: the list that it had
  pub packet_read : (s : CDPParser) (p buffer : List ℕ)
      → refuses (read s p (length buffer)).answer → (read s p (length buffer)).parser.service_info ≡ s.service_info
  -- a time code, by itself and in a packet; and the packet before its list is made
  pub time_read : (hours minutes seconds frames : ℕ)
      → refuses (read_answer (Time.time_read hours minutes seconds frames) 0)
      → result_ok (Time.time_read hours minutes seconds frames) ≡ None
  pub time_code_read : (p : List ℕ) (present : Bool) (i : ℕ)
      → refuses (ReadTimeCode.time_code_answer p present i) → result_ok (ReadTimeCode.time_code_read p present i) ≡ None
  pub checked_read : (p : List ℕ) → refuses (read_answer (ReadPacket.checked_read p) 0) → result_ok (ReadPacket.checked_read p) ≡ None
  -- so a packet with another checksum byte than rule 9's shows nothing, whichever of the two reads it
  pub bad_checksum : (p : List ℕ) → (byte p (footer_at p + 3) ≡ checksum_of p → ⊥) → result_ok (ReaderCode.packet_read p) ≡ None
  pub bad_checksum_kept : (s : CDPParser) (p buffer : List ℕ) → (byte p (footer_at p + 3) ≡ checksum_of p → ⊥)
      → (read s p (length buffer)).parser.service_info ≡ s.service_info
