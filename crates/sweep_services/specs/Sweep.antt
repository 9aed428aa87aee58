-- What the digests of the sweep go over.
use Rattle.std.specs.Prelude.{List, [], ◌∷◌, ℕ, ◌+◌, ◌/◌, ◌%◌, Result, Ok, Err, set, take}
use Rattle.basis.specs.Answer.{done, refused}
use Rattle.report.specs.Digest.{fed, entry_fed, list_fed, swept}
use Rattle.service_entry.specs.Entry.{entry_read}
use Rattle.service_list.specs.Section.{section_read}
use Rattle.sweep_services.specs.Good.{good_bytes, good_size}
use Rattle.basis.specs.declared.answer.Answer.{Answer}
use Rattle.basis.specs.declared.refusal.Refused.{Refused}
use Rattle.service_entry.specs.declared.entry.ServiceEntry.{ServiceEntry}
use Rattle.service_list.specs.declared.list.ServiceInfo.{ServiceInfo}

-- what reading an entry gives: the answer's number and, where it is 0, the entry
abbrev pub read_fed : ℕ → Result ServiceEntry Refused → ℕ
read_fed digest (Ok e) = entry_fed (fed digest 0) e
read_fed digest (Err r) = fed digest (refused r.refusal).number

-- the three numbers of an answer, a byte of each
abbrev pub low_bytes_fed : ℕ → Answer → ℕ
low_bytes_fed digest a = fed (fed (fed digest a.number) (a.first % 256)) (a.second % 256)

-- what reading a section gives: the answer and, where it is 0, the list
abbrev pub section_fed : ℕ → Result ServiceInfo Refused → ℕ
section_fed digest (Ok l) = list_fed (low_bytes_fed digest (done 0)) l l.count
section_fed digest (Err r) = low_bytes_fed digest (refused r.refusal)

-- an entry in English with these three bytes behind the language
abbrev pub english_entry : ℕ → ℕ → List ℕ
english_entry kind last_two = 0x65 ∷ 0x6E ∷ 0x67 ∷ kind % 256 ∷ last_two / 256 % 256 ∷ last_two % 256 ∷ []

-- a section of one entry
abbrev pub one_entry : ℕ → ℕ → List ℕ
one_entry header kind = 0x73 ∷ 0x81 ∷ header % 256 ∷ 0x65 ∷ 0x6E ∷ 0x67 ∷ kind % 256 ∷ 0x3F ∷ 0xFF ∷ []

-- the good section of a count in another size and with another byte at a place
abbrev pub changed_bytes : ℕ → ℕ → ℕ → ℕ → List ℕ
changed_bytes count size place byte = take (size % 128) (set (good_bytes count 128) (place % 128) (byte % 256))

-- one step of a digest
unfoldable pub entry_step : ℕ → ℕ → ℕ → ℕ
entry_step kind digest n = read_fed digest (entry_read (english_entry kind n))

unfoldable pub header_step : ℕ → ℕ → ℕ → ℕ
header_step header digest n = section_fed digest (section_read (one_entry header n))

unfoldable pub changed_step : ℕ → ℕ → ℕ → ℕ → ℕ → ℕ
changed_step digest count size place byte = section_fed digest (section_read (changed_bytes count size place byte))

-- every byte 4 and byte 5 of an entry with this byte 3
abbrev pub entries_digest : ℕ → ℕ
entries_digest kind = swept (entry_step kind) 65536

-- every byte 3 of an entry behind this header byte
abbrev pub headers_digest : ℕ → ℕ
headers_digest header = swept (header_step header) 256

-- every value of one byte of a good section
abbrev pub place_digest : ℕ → ℕ → ℕ
place_digest count place = swept (λ digest n. changed_step digest count (good_size count) place n) 256

-- every size of a good section, up to eight zeros behind it
abbrev pub sizes_digest : ℕ → ℕ
sizes_digest count = swept (λ digest n. changed_step digest count n 0 0x73) (good_size count + 9)

-- one byte 1 with as many good entries as it counts
abbrev pub second_byte_digest : ℕ → ℕ
second_byte_digest byte = changed_step 0 byte (good_size byte) 1 byte
