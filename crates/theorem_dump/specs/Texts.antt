-- What is promised of the dump's text: the example of docs/RULES.md, the text of a refusal and of an acceptance, its last
-- line, and the greatest length.
use Rattle.std.specs.Prelude.{false, List, [], ◌∷◌, ◌++◌, ◌≡◌, ℕ, zero, suc, ◌+◌, ◌-◌, ◌≤◌, ◌<◌, eqb, drop, length, replicate}
use Rattle.std.specs.Int.Bits.{bit_and}
use Rattle.basis.specs.Bytes.{byte}
use Rattle.reader.specs.Reader.{captions_of}
use Rattle.text.specs.Ascii.{ascii}
use Rattle.text.specs.Digits.{flag_after, number_after}
use Rattle.text.specs.Lines.{line_text, lines_text}
use Rattle.text.specs.Whole.{most_input}
use Rattle.text_dump.specs.Dump.{dump_text, most_text, newly_read}
use Rattle.text_dump.specs.Lines.{shown_lines}

-- a time code, one caption and one digital service
abbrev pub example_packet : List ℕ
example_packet =
    0x96 ∷ 0x69 ∷ 0x1E ∷ 0x3F ∷ 0xF7 ∷ 0x00 ∷ 0x05 ∷ 0x71 ∷ 0xD0 ∷ 0xA0 ∷ 0x30 ∷ 0x12 ∷ 0x72 ∷ 0xE1 ∷ 0xFC ∷ 0x41 ∷ 0x42
    ∷ 0x73 ∷ 0xD1 ∷ 0x81 ∷ 0x65 ∷ 0x6E ∷ 0x67 ∷ 0xC1 ∷ 0x3F ∷ 0xFF ∷ 0x74 ∷ 0x00 ∷ 0x05 ∷ 0x3C ∷ []

-- so many digital services, the first of them number 10
abbrev pub from_ten : ℕ → List ℕ
from_ten zero = []
from_ten (suc k) = from_ten k ++ (0x8A + k) ∷ 0x65 ∷ 0x6E ∷ 0x67 ∷ (0xCA + k) ∷ 0x3F ∷ 0xFF ∷ []

-- 60000/1001, the last sequence, a time code, 31 captions, and the services 10 to 24
abbrev pub longest_packet : List ℕ
longest_packet =
    (0x96 ∷ 0x69 ∷ 0xDA ∷ 0x7F ∷ 0xF7 ∷ 0xFF ∷ 0xFF ∷ 0x71 ∷ 0xD0 ∷ 0xA0 ∷ 0x30 ∷ 0x12 ∷ 0x72 ∷ 0xFF ∷ [])
    ++ replicate 93 0x41
    ++ (0x73 ∷ 0xDF ∷ [])
    ++ from_ten 15
    ++ (0x74 ∷ 0xFF ∷ 0xFF ∷ 0xF8 ∷ [])

pub record Texts : Type 0 where
  -- the example's nine lines
  pub example : dump_text example_packet
      ≡ lines_text
      (ascii "answer 0"
      ∷ ascii "rate 3 25/1"
      ∷ ascii "sequence 5"
      ∷ ascii "time 10:20:30:12 field 0 drop 0"
      ∷ ascii "captions 1"
      ∷ ascii "fc 41 42"
      ∷ ascii "services 1 start 1 change 0 complete 1"
      ∷ ascii "digital 1 656e67 easy 0 wide 0"
      ∷ ascii "active 1"
      ∷ [])
  -- the shortest packet with another checksum byte, and ten zeros
  pub bad_checksum : dump_text (0x96 ∷ 0x69 ∷ 0x0B ∷ 0x3F ∷ 0x01 ∷ 0x00 ∷ 0x00 ∷ 0x74 ∷ 0x00 ∷ 0x00 ∷ 0x43 ∷ [])
      ≡ ascii "answer 5\n"
  pub ten_zeros : dump_text (replicate 10 0) ≡ ascii "answer 1 expected 11 actual 10\n"
  -- a refusal is one line, which has its number; that of 1 has its two numbers too
  pub refusal : (p : List ℕ) → length p ≤ most_input → eqb (newly_read p).answer.number 0 ≡ false
      → eqb (newly_read p).answer.number 1 ≡ false → dump_text p ≡ line_text (number_after "answer " (newly_read p).answer.number)
  pub mismatch : (p : List ℕ) → length p ≤ most_input → (newly_read p).answer.number ≡ 1
      → dump_text p
      ≡ line_text (number_after "answer 1 expected " (newly_read p).answer.first ++ number_after " actual " (newly_read p).answer.second)
  -- below the line of 0 stands what the reader shows and hands out
  pub acceptance : (p : List ℕ) → length p ≤ most_input → (newly_read p).answer.number ≡ 0
      → dump_text p ≡ lines_text (ascii "answer 0" ∷ shown_lines (newly_read p).parser (captions_of p))
  -- the last line, nine bytes with its end, tells the bit under 02 of the packet's byte 4
  pub last_line : (p : List ℕ) → length p ≤ most_input → (newly_read p).answer.number ≡ 0
      → drop (length (dump_text p) - 9) (dump_text p) ≡ line_text (flag_after "active " (eqb (bit_and (byte p 4) 0x02) 0x02))
  -- an input that no reader is given
  pub too_long : (input : List ℕ) → most_input < length input → dump_text input ≡ ascii "input too long\n"
  -- no input has a longer text than this, and one has a text so long
  pub most : (input : List ℕ) → ((i : ℕ) → byte input i < 256) → length (dump_text input) ≤ most_text
  pub attained : length (dump_text longest_packet) ≡ most_text
