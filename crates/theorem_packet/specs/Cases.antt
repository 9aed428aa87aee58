-- The worked cases P1 to P12 in one table: what the definitions that the contracts cite give for each, whole.
use Rattle.std.specs.Prelude.{true, false, List, [], ◌∷◌, ◌≡◌, ℕ, ◌≤◌, Result, Ok, Err, Some, length}
use Rattle.basis.specs.Bytes.{over}
use Rattle.basis.specs.Check.{clear, read_answer, refused_at, verdict}
use Rattle.basis.specs.Mask.{all_set, x80}
use Rattle.values.specs.Rate.{row}
use Rattle.values_time.specs.Time.{digits, time_absent, time_checks, time_code, time_present, time_read}
use Rattle.service_entry.specs.Entry.{entry_read}
use Rattle.service_entry.specs.Service.{entry}
use Rattle.service_list.specs.Section.{section_read}
use Rattle.service_entries.specs.Entries.{filled}
use Rattle.service_list.specs.ServiceList.{list, list_absent}
use Rattle.reader.specs.Shown.{state}
use Rattle.reader.specs.Reader.{buffer_after, cleared, read}
use Rattle.writer.specs.Writer as Writer
use Rattle.service_entry.specs.declared.service.FieldOrService.TheVariants.{Field}
use Rattle.reader.specs.declared.parser.CDPParser.{CDPParser}
use Rattle.service_list.specs.declared.list.ServiceInfo.{ServiceInfo}
use Rattle.basis.specs.declared.answer.Answer.{Answer}
use Rattle.basis.specs.declared.refusal.Refusal.{Refusal}
use Rattle.basis.specs.declared.refusal.Refusal.TheVariants.{InvalidServiceNumber, LengthMismatch, ServiceNumberMismatch}
use Rattle.basis.specs.declared.refusal.Refused.{Refused}
use Rattle.values.specs.Layout.{caption_room}
use Rattle.values_time.specs.declared.time.MaybeTimeCode.{MaybeTimeCode}

-- an answer by its number and its two values
abbrev pub numbers : ℕ → ℕ → ℕ → Answer
numbers number first second = record { number = number; first = first; second = second }

-- a packet with no captions, read on any state and with any caption buffer of at least 95 bytes: the answer, its place, the
-- state, made of the one before, and the buffer as it was
pub record Reads (p : List ℕ) (answered : Answer) (at : ℕ) (after : CDPParser → CDPParser) : Type 0 where
  pub gives : (s : CDPParser) (buffer : List ℕ) → caption_room ≤ length buffer
      → read s p (length buffer) ≡ record { answer = answered; place = at; parser = after s }
  pub keeps : (buffer : List ℕ) → caption_room ≤ length buffer → buffer_after p buffer ≡ buffer

-- what is read by itself and refused: why and where, whole, and as the table has it
pub record Refuses {A : Type 0} (got : Result A Refused) (why : Refusal) (answered : Answer) (at : ℕ) : Type 0 where
  pub gives : got ≡ Err (refused_at why at)
  pub has : read_answer got 0 ≡ answered

-- what an accepted packet leaves of the state before it: nothing
abbrev pub shows : CDPParser → CDPParser → CDPParser
shows shown before = shown

-- 25/1 is there, the sequence is 0, there is no list, captioning is not on air, and this for the time code
abbrev pub rate_with : MaybeTimeCode → CDPParser
rate_with time = state (Some (row 3 25 1)) time 0 list_absent false

-- and no time code
abbrev pub rate_alone : CDPParser
rate_alone = rate_with time_absent

-- the shortest packet, with these bytes for its byte 3 and its last three
abbrev pub shortest : ℕ → ℕ → ℕ → ℕ → List ℕ
shortest rate high low checksum =
    0x96 ∷ 0x69 ∷ 0x0B ∷ rate ∷ 0x01 ∷ 0x00 ∷ 0x00 ∷ 0x74 ∷ high ∷ low ∷ checksum ∷ []

-- a section of one entry, field 2 in English, behind this header byte
abbrev pub field_two_behind : ℕ → Result ServiceInfo Refused
field_two_behind header = section_read (0x73 ∷ 0x81 ∷ header ∷ 0x65 ∷ 0x6E ∷ 0x67 ∷ 0x7F ∷ 0x3F ∷ 0xFF ∷ [])

-- what is written of 25/1 and nothing else
abbrev pub thirteen : List ℕ
thirteen =
    0x96 ∷ 0x69 ∷ 0x0D ∷ 0x3F ∷ 0x43 ∷ 0x00 ∷ 0x00 ∷ 0x72 ∷ 0xE0 ∷ 0x74 ∷ 0x00 ∷ 0x00 ∷ 0xAC ∷ []

-- a packet with a time code section, whose hours byte is FF
abbrev pub hours_ff : List ℕ
hours_ff =
    0x96 ∷ 0x69 ∷ 0x10 ∷ 0x3F ∷ 0x81 ∷ 0x00 ∷ 0x00 ∷ 0x71 ∷ 0xFF ∷ 0xA0 ∷ 0xB0 ∷ 0x92 ∷ 0x74 ∷ 0x00 ∷ 0x00 ∷ 0x6B ∷ []

pub record Cases : Type 0 where
  -- nothing is there but the rate
  pub p1 : Reads (shortest 0x3F 0x00 0x00 0x42) (numbers 0 0 0) 0 (shows rate_alone)
  -- another checksum byte
  pub p2 : Reads (shortest 0x3F 0x00 0x00 0x43) (numbers 5 0 0) 10 cleared
  -- another sequence in the footer, with a checksum that is right
  pub p3 : Reads (shortest 0x3F 0x00 0x01 0x41) (numbers 6 0 0) 8 cleared
  -- rate id 0
  pub p4 : Reads (shortest 0x0F 0x00 0x00 0x42) (numbers 3 0 0) 3 cleared
  -- ten zeros
  pub p5 : Reads (0 ∷ 0 ∷ 0 ∷ 0 ∷ 0 ∷ 0 ∷ 0 ∷ 0 ∷ 0 ∷ 0 ∷ []) (numbers 1 11 10) 10 cleared
  -- a byte behind the footer, whatever it is
  pub p6 : (last : ℕ)
      → Reads (0x96 ∷ 0x69 ∷ 0x0C ∷ 0x3F ∷ 0x00 ∷ 0x00 ∷ 0x00 ∷ 0x74 ∷ 0x00 ∷ 0x00 ∷ 0x21 ∷ last ∷ []) (numbers 0 0 0) 0 (shows rate_alone)
  -- a future section of no bytes
  pub p7 : Reads (0x96 ∷ 0x69 ∷ 0x0D ∷ 0x3F ∷ 0x01 ∷ 0x00 ∷ 0x00 ∷ 0x75 ∷ 0x00 ∷ 0x74 ∷ 0x00 ∷ 0x00 ∷ 0xCB ∷ [])
      (numbers 0 0 0) 0 (shows rate_alone)
  -- hours byte FF, beside any bytes that rule 5 takes: three tens, and 15 units that are taken
  pub p8 : (minutes seconds frames : ℕ) → verdict (time_checks 0xFF minutes seconds frames) ≡ clear
      → time_read 0xFF minutes seconds frames
      ≡ Ok (time_code 45 (digits 3 minutes) (digits 3 seconds) (digits 2 frames) (all_set x80 seconds) (all_set x80 frames))
  -- and once in a packet
  pub p8_packet : Reads hours_ff (numbers 0 0 0) 0 (shows (rate_with (time_present (time_code 45 20 30 12 true true))))
  -- a digital service with number 0
  pub p9 : Refuses (entry_read (0x65 ∷ 0x6E ∷ 0x67 ∷ 0xC0 ∷ 0x3F ∷ 0xFF ∷ [])) InvalidServiceNumber (numbers 8 0 0) 3
  -- header byte 81, which names 1, and 80, which names 0 as a field has it
  pub p10 : Refuses (field_two_behind 0x81) ServiceNumberMismatch (numbers 7 0 0) 2
  pub p10_field_2 : field_two_behind 0x80
      ≡ Ok (list false false false (filled (entry (0x65 ∷ 0x6E ∷ 0x67 ∷ []) (Field false) ∷ [])) 1)
  -- one entry counted, none there
  pub p11 : Refuses (section_read (0x73 ∷ 0x81 ∷ [])) (LengthMismatch 9 2) (numbers 1 9 2) 2
  -- a new writer, 25/1, no captions, any buffer with room
  pub p12 : (buffer : List ℕ) → 13 ≤ length buffer
      → Writer.held_written Writer.fresh_writer (row 3 25 1) [] buffer ≡ record { answer = numbers 0 13 0; buffer = over 0 thirteen buffer }
