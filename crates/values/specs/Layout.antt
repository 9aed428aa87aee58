-- The fixed numbers of a packet's layout: its ids, and the sizes of its parts.
use Rattle.std.specs.Prelude.{ℕ, ◌+◌, ◌*◌}

-- rule 1: the most that a packet can hand out, 2 and three times 31
abbrev pub caption_room : ℕ
caption_room = 95

-- rule 2: the least size
abbrev pub least_size : ℕ
least_size = 11

-- rules 2 to 4: the bytes in front of the sections
abbrev pub header_size : ℕ
header_size = 7

-- rule 5: the id, and the size of an id byte and the four bytes of the time
abbrev pub time_code_id : ℕ
time_code_id = 0x71

abbrev pub time_code_size : ℕ
time_code_size = 5

-- rules 6 to 8: the two bytes that captions, services and a future section begin with
abbrev pub section_head_size : ℕ
section_head_size = 2

-- rule 6
abbrev pub captions_id : ℕ
captions_id = 0x72

abbrev pub triplet_size : ℕ
triplet_size = 3

-- rule 7
abbrev pub services_id : ℕ
services_id = 0x73

-- S5 to S8: an entry's header byte and its six bytes
abbrev pub section_entry_size : ℕ
section_entry_size = 7

-- S4: the length of a section with so many entries, and so the place of the entry behind them
abbrev pub section_length : ℕ → ℕ
section_length count = section_head_size + section_entry_size * count

-- rule 9
abbrev pub footer_id : ℕ
footer_id = 0x74

abbrev pub footer_size : ℕ
footer_size = 4

-- Writing: the longest caption run, 31 triplets
abbrev pub caption_run : ℕ
caption_run = 93
