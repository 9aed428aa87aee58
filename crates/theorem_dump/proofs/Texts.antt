-- The promises of the dump's text hold: the cases are computed, the others follow from the definition.
-- Assumes nothing.
use mathlib.Core.Bool.{Bool, false}
use mathlib.Core.List.{List, [], ◌∷◌, ◌++◌, append_assoc, append-nil}
use mathlib.Core.Path.{◌≡◌, ◌∙◌, sym, refl, ap}
use Prim.Native.Nat.{ℕ, ◌-◌, ◌≤◌, ◌<◌}
use native.Mathlib.Omega.{arith}
use borrow.Author.Tests.{eq-eqb, le-leb, lt-leb}
use lib.Bits.{bit_and}
use lib.Dec.{eqb}
use lib.ListN.{drop, length, length-append}
use lib.Seq.{drop_at}
use Rattle.basis.specs.Bytes.{byte}
use Rattle.basis.specs.Made.{made}
use Rattle.values.specs.Rate.{from_id}
use Rattle.values_time.specs.Time.{digits}
use Rattle.service_entries.specs.Entries.{filled, section_checks}
use Rattle.service_list.specs.Section.{list_of}
use Rattle.read_closing.specs.Closing.{closing_checks}
use Rattle.read_packet.specs.Packet.{packet_checks}
use Rattle.read_services.specs.Services.{same_flags}
use Rattle.reader.proofs.PacketShown.{active_bit}
use Rattle.reader.specs.Reader.{captions_of, read}
use Rattle.reader.specs.Shown.{shown_by}
use Rattle.text.proofs.LinesPut.{lines_append}
use Rattle.text.proofs.Sizes.{flag_size}
use Rattle.text.specs.Answers.{answer_line}
use Rattle.text.specs.Ascii.{ascii}
use Rattle.text.specs.Digits.{decimal_text, flag_after, flag_text, hex_text, number_after, two_digits}
use Rattle.text.specs.Lines.{line_text, lines_text}
use Rattle.text_dump.proofs.PacketDumped.{parser_is}
use Rattle.text_dump.proofs.TextMost.{dump_most}
use Rattle.text.specs.Whole.{most_input}
use Rattle.text_dump.specs.Dump.{dump_text, newly_read, read_lines}
use Rattle.text_dump.specs.Lines.{
  rate_shown,
  active_line,
  caption_lines,
  entry_line,
  rate_line,
  sequence_line,
  service_lines,
  shown_lines,
  time_line,
}
use Rattle.theorem_dump.specs.Texts.{Texts}
use Rattle.reader.specs.declared.parser.CDPParser.{CDPParser}

nought : decimal_text 0 ≡ ascii "0"
unfolding decimal_text
nought = refl

one : decimal_text 1 ≡ ascii "1"
unfolding decimal_text
one = refl

module _ (p : List ℕ) (short : length p ≤ most_input) where
  refusal_text : eqb (newly_read p).answer.number 0 ≡ false → eqb (newly_read p).answer.number 1 ≡ false
      → dump_text p ≡ line_text (number_after "answer " (newly_read p).answer.number)
  unfolding dump_text read_lines answer_line
  refusal_text k l =
      let line : List ℕ = number_after "answer " (newly_read p).answer.number in
      simp (le-leb (length p) most_input short, k, l) (append-nil (line_text (line ++ [])) ∙ ap line_text (append-nil line))

  mismatch_text : (newly_read p).answer.number ≡ 1
      → dump_text p
      ≡ line_text
      (number_after "answer 1 expected " (newly_read p).answer.first
      ++ number_after " actual " (newly_read p).answer.second)
  unfolding dump_text read_lines answer_line
  mismatch_text k =
      simp (le-leb (length p) most_input short, k, one)
      (append-nil
      (line_text
      (number_after "answer 1 expected " (newly_read p).answer.first
      ++ number_after " actual " (newly_read p).answer.second)))

  acceptance_text : (newly_read p).answer.number ≡ 0
      → dump_text p ≡ line_text (ascii "answer 0") ++ lines_text (shown_lines (newly_read p).parser (captions_of p))
  unfolding dump_text read_lines answer_line
  acceptance_text k = simp (le-leb (length p) most_input short, k, nought)

-- the text of what is shown: these lines, and behind them the mark's
abbrev in_front : CDPParser → List ℕ → List (List ℕ)
in_front s handed_out =
    rate_line (rate_shown s.framerate)
    ∷ sequence_line s.sequence
    ∷ time_line s.time_code
    ∷ (caption_lines handed_out ++ service_lines s.service_info)

shown_ends : (s : CDPParser) (handed_out : List ℕ)
    → lines_text (shown_lines s handed_out) ≡ lines_text (in_front s handed_out) ++ line_text (active_line s.caption_active)
unfolding shown_lines
shown_ends s handed_out =
    let last : List (List ℕ) = active_line s.caption_active ∷ [] in
    rw (← append_assoc (caption_lines handed_out) (service_lines s.service_info) last)
    (sym (lines_append (in_front s handed_out) last)
    ∙ ap (λ (line : List ℕ). lines_text (in_front s handed_out) ++ line)
    (append-nil (line_text (active_line s.caption_active))))

last_nine : (text front line : List ℕ) → text ≡ front ++ line → length line ≡ 9 → drop (length text - 9) text ≡ line
last_nine text front line e nine =
    rw e (drop_at front line (length (front ++ line) - 9) (omega (arith, length-append front line, nine)))

module _ (p : List ℕ) (short : length p ≤ most_input) (done : (newly_read p).answer.number ≡ 0) where
  -- what the reader shows is the bit of the byte
  shown_bit : (newly_read p).parser.caption_active ≡ eqb (bit_and (byte p 4) 0x02) 0x02
  shown_bit = ap (λ (s : CDPParser). s.caption_active) (parser_is p (eq-eqb _ _ done)) ∙ active_bit p

  last_line : drop (length (dump_text p) - 9) (dump_text p)
      ≡ line_text (flag_after "active " (eqb (bit_and (byte p 4) 0x02) 0x02))
  unfolding active_line
  last_line =
      let s : CDPParser = (newly_read p).parser in
      let line : List ℕ = line_text (active_line s.caption_active) in
      let front : List ℕ = lines_text (in_front s (captions_of p)) in
      last_nine (dump_text p) (line_text (ascii "answer 0") ++ front) line
      (acceptance_text p short done
      ∙ ap (λ (text : List ℕ). line_text (ascii "answer 0") ++ text) (shown_ends s (captions_of p))
      ∙ sym (append_assoc (line_text (ascii "answer 0")) front line))
      (simp (length-append, flag_size))
      ∙ ap (λ (b : Bool). line_text (flag_after "active " b)) shown_bit

too_long : (input : List ℕ) → most_input < length input → dump_text input ≡ ascii "input too long\n"
unfolding dump_text
too_long input h = simp (lt-leb (length input) most_input h)

pub texts : Texts
unfolding dump_text read_lines answer_line shown_lines rate_line sequence_line time_line caption_lines service_lines entry_line active_line
    decimal_text two_digits hex_text flag_text made read packet_checks closing_checks section_checks same_flags shown_by from_id digits
    list_of filled
texts =
    record {
      example = refl;
      bad_checksum = refl;
      ten_zeros = refl;
      refusal = refusal_text;
      mismatch = mismatch_text;
      acceptance = acceptance_text;
      last_line = last_line;
      too_long = too_long;
      most = dump_most;
      attained = refl;
    }
