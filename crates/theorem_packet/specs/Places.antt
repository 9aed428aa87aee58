-- The place of every answer of reading: inside its input, and where the part stands that is refused.
use Rattle.std.specs.Prelude.{Bool, true, cond, ◌&&◌, ◌||◌, List, [], ◌∷◌, ◌++◌, ◌≡◌, ℕ, ◌+◌, ◌≤◌, ◌<◌, Result, eqb, leb, ltb, length, take}
use Rattle.basis.specs.Check.{Check, WriteCheck, answer, check, clear, moved, read_answer, read_place, verdict, when}
use Rattle.basis.specs.declared.refusal.Refused.{Refused}
use Rattle.values.specs.Layout.{caption_room, section_head_size, section_length}
use Rattle.values_time.specs.Time.{time_read}
use Rattle.service_entry.specs.Entry.{entry_checks, entry_read}
use Rattle.service_entry.specs.EntryWriting.{entry_length}
use Rattle.service_entries.specs.Entries.{checks_at, count_of, entry_list_checks, frame_checks, section_checks, six_behind}
use Rattle.service_entries.specs.Code.{entries_read, section_outcome}
use Rattle.service_list.specs.Section.{section_read}
use Rattle.read_captions.specs.Captions.{captions_checks}
use Rattle.read_captions.specs.Code.{captions_tested}
use Rattle.read_closing.specs.Code.{closing_read}
use Rattle.read_header.specs.Code.{header_read}
use Rattle.read_header.specs.Header.{flags_in, header_checks}
use Rattle.read_services.specs.Code.{services_tested}
use Rattle.read_services.specs.Services.{services_checks, services_part}
use Rattle.read_time_code.specs.Code.{time_code_read}
use Rattle.read_time_code.specs.TimeCode.{time_code_checks}
use Rattle.read_packet.specs.Code.{checked_read}
use Rattle.read_packet.specs.Packet.{captions_at, captions_length, services_at, time_code_at}
use Rattle.reader.specs.Code.{packet_read}
use Rattle.reader.specs.Reader.{read, read_checks}
use Rattle.theorem_packet.specs.FirstDemand.{refuses}
use Rattle.basis.specs.declared.answer.Answer.{Answer}
use Rattle.reader.specs.declared.parser.CDPParser.{CDPParser}
use Rattle.values.specs.declared.flags.Flags.{Flags}

-- beside 0 and 11 the place is 0, beside 1 the size of the input, beside 2 to 9 one of its bytes; reading has no other answer
abbrev pub stands_in : ℕ → Answer → ℕ → Bool
stands_in size a place =
    cond (eqb a.number 0 || eqb a.number 11) (eqb place 0)
    (cond (eqb a.number 1) (eqb place size) (leb a.number 9 && ltb place size))

-- so what a call of reading gives; the length that goes with 0 does not count for it
abbrev pub read_stands : {A : Type 0} → ℕ → Result A Refused → Bool
read_stands size got = stands_in size (read_answer got 0) (read_place got)

-- the service section of a packet: its bytes, and what is tested in front of its own rules: header, time code and captions,
-- and 7.1 to 7.3
abbrev pub own_section : List ℕ → List ℕ
own_section p = services_part p (services_at p)

abbrev pub before_section : List ℕ → List Check
before_section p =
    header_checks p
    ++ (when (flags_in p).time_code (time_code_checks p time_code_at)
    ++ (when (flags_in p).cc_data (captions_checks p (captions_at p)) ++ take 3 (services_checks p (flags_in p) (services_at p))))

-- the entry behind so many others in a section: its six bytes, and what is tested in front of its own rules: S1 to S4, those
-- others, and S5 and S6
abbrev pub own_entry : List ℕ → ℕ → List ℕ
own_entry d k = six_behind d (section_length k)

abbrev pub before_entry : List ℕ → ℕ → List Check
before_entry d k =
    frame_checks d ++ (entry_list_checks d section_head_size k ++ moved (section_length k) (take 2 (checks_at d (section_length k))))

-- checks with their places left out, and the answer that these come to
abbrev pub without_places : List Check → List WriteCheck
without_places [] = []
without_places (c ∷ cs) = check c.kept c.rule.refusal ∷ without_places cs

abbrev pub unplaced_answer : List Check → ℕ → Answer
unplaced_answer cs count = answer (verdict (without_places cs)) count

pub record Places : Type 0 where
  -- whatever is read, whatever the state and however many caption bytes are lent
  pub packet_stands : (s : CDPParser) (p : List ℕ) (room : ℕ)
      → stands_in (length p) (read s p room).answer (read s p room).place ≡ true
  pub section_stands : (d : List ℕ) → read_stands (length d) (section_read d) ≡ true
  pub entry_stands : (e : List ℕ) → read_stands entry_length (entry_read e) ≡ true
  pub time_stands : (hours minutes seconds frames : ℕ) → read_stands 4 (time_read hours minutes seconds frames) ≡ true
  -- the parts of a packet, each read at any place; byte 4, at which services are refused for their flags, has to be there
  pub header_stands : (p : List ℕ) → read_stands (length p) (header_read p) ≡ true
  pub time_code_stands : (p : List ℕ) (present : Bool) (i : ℕ) → read_stands (length p) (time_code_read p present i) ≡ true
  pub captions_stand : (p : List ℕ) (present : Bool) (i : ℕ) → read_stands (length p) (captions_tested p present i) ≡ true
  pub services_stand : (p : List ℕ) (f : Flags) (i : ℕ) → 5 ≤ length p → read_stands (length p) (services_tested p f i) ≡ true
  pub closing_stands : (p : List ℕ) (sequence i : ℕ) → read_stands (length p) (closing_read p sequence i) ≡ true
  -- a section tested and its entries read; the packet before its list is made and with no state
  pub section_test_stands : (d : List ℕ) → read_stands (length d) (section_outcome d) ≡ true
  pub entries_stand : (d : List ℕ) → read_stands (length d) (entries_read d) ≡ true
  pub checked_stands : (p : List ℕ) → read_stands (length p) (checked_read p) ≡ true
  pub stateless_stands : (p : List ℕ) → read_stands (length p) (packet_read p) ≡ true
  -- a section that the section reader refuses is refused in a packet with the same answer, at the section's place plus the
  -- section reader's own; so is an entry in a section, behind its header byte
  pub section_in_packet : (s : CDPParser) (p : List ℕ) (room : ℕ) → caption_room ≤ room → (flags_in p).svc_info ≡ true
      → verdict (before_section p) ≡ clear → refuses (read_answer (section_read (own_section p)) 0)
      → ((read s p room).answer ≡ read_answer (section_read (own_section p)) 0)
      × ((read s p room).place ≡ services_at p + read_place (section_read (own_section p)))
  pub entry_in_section : (d : List ℕ) (k : ℕ) → k < count_of d → verdict (before_entry d k) ≡ clear
      → refuses (read_answer (entry_read (own_entry d k)) 0)
      → (read_answer (section_read d) 0 ≡ read_answer (entry_read (own_entry d k)) 0)
      × (read_place (section_read d) ≡ section_length k + 1 + read_place (entry_read (own_entry d k)))
  -- no answer hangs on a place: its number and both values are those of the same checks with their places left out, and where
  -- a part stands does not count for them
  pub packet_answers : (s : CDPParser) (p : List ℕ) (room : ℕ)
      → (read s p room).answer ≡ unplaced_answer (read_checks p room) (captions_length p)
  pub section_answers : (d : List ℕ) → read_answer (section_read d) 0 ≡ unplaced_answer (section_checks d) 0
  pub entry_answers : (e : List ℕ) → read_answer (entry_read e) 0 ≡ unplaced_answer (entry_checks e) 0
  pub parts_stay : (from : ℕ) (cs : List Check) → without_places (moved from cs) ≡ without_places cs
