-- How long the lines of a dump can be, one by one and together.
-- Assumes nothing.
use mathlib.Core.Bool.{Bool, true, false, cond}
use mathlib.Core.List.{List, [], ◌∷◌, ◌++◌}
use mathlib.Core.Path.{◌≡◌, ◌∙◌, sym, refl, ap}
use Prim.Native.Nat.{ℕ, zero, suc, ◌+◌, ◌*◌, ◌/◌, ◌-◌, ◌≤◌, ◌<◌}
use native.Mathlib.Omega.{arith}
use lib.Dec.{eqb, leb, lit≤}
use lib.ListN.{length, length-append, get_or, replicate}
use Rattle.basis.specs.Bytes.{byte}
use Rattle.basis.specs.Made.{made}
use Rattle.basis.specs.Mask.{all_clear, all_set, under, x01, x3f, x40, x80, xf0}
use Rattle.read_header.specs.Header.{flags_in}
use Rattle.read_packet.specs.Packet.{captions_length, services_at, time_code_at}
use Rattle.read_services.specs.Services.{services_of, services_part}
use Rattle.read_time_code.specs.TimeCode.{time_code_of}
use Rattle.reader.proofs.ReaderReads.{captions_long}
use Rattle.reader.specs.Reader.{captions_of}
use Rattle.reader.specs.Shown.{shown_by}
use Rattle.service_entries.specs.Entries.{count_of, entries_of, filled, places}
use Rattle.service_entry.specs.Service.{digital_entry, filler, number_of}
use Rattle.service_list.specs.Section.{list_of}
use Rattle.service_list.specs.ServiceList.{list_present}
use Rattle.text.proofs.Decimals.{decimal_within}
use Rattle.text.proofs.LinesPut.{lines_append}
use Rattle.text.proofs.Sizes.{answer_most, done_size, each_most, flag_size, hex_size, two_size}
use Rattle.text.specs.Answers.{answer_line}
use Rattle.text.specs.Digits.{decimal_text}
use Rattle.text.specs.Lines.{lines_text}
use Rattle.text.specs.Whole.{most_input}
use Rattle.text_dump.specs.Dump.{dump_text, most_text, newly_read, packet_lines, read_lines}
use Rattle.text_dump.specs.Lines.{
  active_line,
  caption_lines,
  entry_line,
  place_line,
  rate_line,
  sequence_line,
  service_line,
  service_lines,
  shown_lines,
  time_line,
  triplet_line,
}
use Rattle.text_dump.proofs.PacketDumped.{answer_is, few_listed, packet_kept, parser_is}
use Rattle.values.specs.Layout.{caption_room, section_entry_size}
use Rattle.values.specs.Rate.{from_id, row}
use Rattle.basis.specs.declared.answer.Answer.{Answer}
use Rattle.service_entry.specs.declared.entry.ServiceEntry.{ServiceEntry}
use Rattle.service_entry.specs.declared.service.FieldOrService.{FieldOrService}
use Rattle.service_entry.specs.declared.service.FieldOrService.TheVariants.{Field, Service}
use Rattle.service_list.specs.declared.list.ServiceInfo.{ServiceInfo}
use Rattle.values.specs.declared.framerate.Framerate.{Framerate}
use Rattle.std.specs.Prelude.{Option, Some, None}
use Rattle.text_dump.specs.Lines.{rate_shown}
use Rattle.values_time.specs.declared.time.MaybeTimeCode.{MaybeTimeCode}

lines_size : (xs ys : List (List ℕ)) → length (lines_text (xs ++ ys)) ≡ length (lines_text xs) + length (lines_text ys)
lines_size xs ys = ap length (sym (lines_append xs ys)) ∙ length-append (lines_text xs) (lines_text ys)

-- the rate's line: each of the eight, and none
one_rate : (here : Bool) (r : Framerate) (others : Option Framerate) → length (rate_line r) ≤ 17
    → length (rate_line (rate_shown others)) ≤ 17
    → length (rate_line (rate_shown (cond here (Some r) others))) ≤ 17
one_rate true r others h k = h
one_rate false r others h k = k

rate_most : (id : ℕ) → length (rate_line (rate_shown (from_id id))) ≤ 17
unfolding from_id rate_line decimal_text
rate_most id =
    one_rate (eqb id 1) (row 1 24000 1001) _ (lit≤ tt)
    (one_rate (eqb id 2) (row 2 24 1) _ (lit≤ tt)
    (one_rate (eqb id 3) (row 3 25 1) _ (lit≤ tt)
    (one_rate (eqb id 4) (row 4 30000 1001) _ (lit≤ tt)
    (one_rate (eqb id 5) (row 5 30 1) _ (lit≤ tt)
    (one_rate (eqb id 6) (row 6 50 1) _ (lit≤ tt)
    (one_rate (eqb id 7) (row 7 60000 1001) _ (lit≤ tt)
    (one_rate (eqb id 8) (row 8 60 1) None (lit≤ tt) (lit≤ tt))))))))

-- the sequence's line, of two bytes
sequence_most : (high low : ℕ) → high < 256 → low < 256 → length (sequence_line (high * 256 + low)) ≤ 14
unfolding sequence_line
sequence_most high low h k = simp length-append (omega (arith, decimal_within 4 (high * 256 + low) (omega arith)))

-- the time code's line
time_cases : (t : MaybeTimeCode) (there : Bool) → t.present ≡ there → length (time_line t) ≤ 31
unfolding time_line
time_cases t true e = rw e (simp (length-append, two_size, flag_size) (lit≤ tt))
time_cases t false e = rw e (lit≤ tt)

time_most : (t : MaybeTimeCode) → length (time_line t) ≤ 31
time_most t = time_cases t t.present refl

-- the captions' lines, of as many bytes as a packet hands out at most
triplet_most : (h : List ℕ) (k : ℕ) → length (triplet_line h k) ≤ 8
triplet_most h k = simp (length-append, hex_size) (lit≤ tt)

captions_cases : (h : List ℕ) (none : Bool) → eqb (length h) 0 ≡ none → length h ≤ caption_room
    → length (lines_text (caption_lines h)) ≤ 291
unfolding caption_lines
captions_cases h true e few = rw e (lit≤ tt)
captions_cases h false e few =
    let count : ℕ = length h / 3 in
    let each : length (lines_text (made (triplet_line h) count)) ≤ 9 * count =
    each_most (triplet_line h) 8 (triplet_most h) count in
    let digits : length (decimal_text count) ≤ 2 = decimal_within 1 count (omega arith) in
    rw e (simp length-append (omega (arith, each, digits)))

captions_most : (h : List ℕ) → length h ≤ caption_room → length (lines_text (caption_lines h)) ≤ 291
captions_most h few = captions_cases h (eqb (length h) 0) refl few

few_handed : (p : List ℕ) (there : Bool) → (flags_in p).cc_data ≡ there → captions_length p ≤ caption_room
few_handed p true e = rw e (omega arith)
few_handed p false e = rw e (omega arith)

-- an entry's line, whose number has two digits at most
field_most : (first : Bool) → length (decimal_text (cond first 1 2)) ≤ 1
field_most true = decimal_within 0 1 (lit≤ tt)
field_most false = decimal_within 0 2 (lit≤ tt)

service_most : (s : FieldOrService) (language : List ℕ) → number_of s ≤ 63 → length (service_line s language) ≤ 31
service_most (Field first) language h = simp (length-append, hex_size) (omega (arith, field_most first))
service_most (Service d) language h =
    simp (length-append, hex_size, flag_size) (omega (arith, decimal_within 1 d.service (omega arith)))

-- every entry that a section's bytes hold, and the filler behind them, has such a number
service_small : (kind flags : ℕ) (digital : Bool)
    → number_of
    (cond digital
    (Service (digital_entry (under x3f kind) (all_set x80 flags) (all_set x40 flags)))
    (Field (all_clear x01 kind)))
    ≤ 63
service_small kind flags true = omega arith
service_small kind flags false = omega arith

filler_small : (count k : ℕ) → number_of (get_or (replicate count filler) k filler).service ≤ 63
filler_small zero k = omega arith
filler_small (suc count) zero = omega arith
filler_small (suc count) (suc k) = filler_small count k

entries_small : (d : List ℕ) (at n rest k : ℕ)
    → number_of (get_or (entries_of d at n ++ replicate rest filler) k filler).service ≤ 63
entries_small d at zero rest k = filler_small rest k
entries_small d at (suc n) rest zero =
    service_small (byte d (at + 4)) (byte d (at + 5)) (all_set x80 (byte d (at + 4)))
entries_small d at (suc n) rest (suc k) = entries_small d (at + section_entry_size) n rest k

place_most : (d : List ℕ) (k : ℕ) → length (place_line (list_of d).services k) ≤ 31
unfolding entry_line list_of filled
place_most d k =
    let e : ServiceEntry = get_or (list_of d).services k filler in
    service_most e.service e.language (entries_small d 2 (count_of d) (places - length (entries_of d 2 (count_of d))) k)

-- the list's lines
list_most : (d : List ℕ) → length (lines_text (service_lines (list_present (list_of d)))) ≤ 520
unfolding service_lines
list_most d =
    let l : ServiceInfo = list_of d in
    let count : l.count ≤ 15 = few_listed d in
    let each : length (lines_text (made (place_line l.services) l.count)) ≤ 32 * l.count =
    each_most (place_line l.services) 31 (place_most d) l.count in
    let digits : length (decimal_text l.count) ≤ 2 = decimal_within 1 l.count (omega (arith, count)) in
    simp (length-append, flag_size) (omega (arith, each, digits, count))

services_most : (p : List ℕ) (there : Bool) (i : ℕ) → length (lines_text (service_lines (services_of p there i))) ≤ 520
unfolding service_lines
services_most p true i = list_most (services_part p i)
services_most p false i = lit≤ tt

-- whether captioning is on air
active_size : (active : Bool) → length (lines_text (active_line active ∷ [])) ≡ 9
unfolding active_line
active_size active = simp (length-append, flag_size)

-- what is shown of a packet and handed out, of bytes
shown_most : (p : List ℕ) → ((i : ℕ) → byte p i < 256) → length (captions_of p) ≤ caption_room
    → length (lines_text (shown_lines (shown_by p) (captions_of p))) ≤ 885
unfolding shown_lines shown_by
shown_most p bytes few =
    let captions : List (List ℕ) = caption_lines (captions_of p) in
    let services : List (List ℕ) = service_lines (services_of p (flags_in p).svc_info (services_at p)) in
    let active : List (List ℕ) = active_line (flags_in p).caption_service_active ∷ [] in
    simp length-append
    (omega (
      arith,
      lines_size captions (services ++ active),
      lines_size services active,
      active_size (flags_in p).caption_service_active,
      rate_most (under xf0 (byte p 3)),
      sequence_most (byte p 5) (byte p 6) (bytes 5) (bytes 6),
      time_most (time_code_of p (flags_in p).time_code time_code_at),
      captions_most (captions_of p) few,
      services_most p (flags_in p).svc_info (services_at p),
    ))

-- the greatest length of a text
refused_most : (a : Answer) → length (lines_text (answer_line a ∷ [])) ≤ most_text
refused_most a = simp length-append (omega (arith, answer_most a))

accepted_most : (p : List ℕ) → ((i : ℕ) → byte p i < 256)
    → eqb (newly_read p).answer.number 0 ≡ true → length (lines_text (packet_lines p)) ≤ most_text
unfolding read_lines
accepted_most p bytes h =
    let few : length (captions_of p) ≤ caption_room =
    omega (arith, captions_long p (packet_kept p h), few_handed p (flags_in p).cc_data refl) in
    rw (h, answer_is p h, parser_is p h)
    (simp length-append (omega (arith, done_size (captions_length p), shown_most p bytes few)))

packet_cases : (p : List ℕ) → ((i : ℕ) → byte p i < 256) → (accepted : Bool)
    → eqb (newly_read p).answer.number 0 ≡ accepted → length (lines_text (packet_lines p)) ≤ most_text
unfolding read_lines
packet_cases p bytes true e = accepted_most p bytes e
packet_cases p bytes false e = rw e (refused_most (newly_read p).answer)

input_cases : (p : List ℕ) → ((i : ℕ) → byte p i < 256) → (short : Bool) → leb (length p) most_input ≡ short
    → length (dump_text p) ≤ most_text
unfolding dump_text
input_cases p bytes true e = rw e (packet_cases p bytes (eqb (newly_read p).answer.number 0) refl)
input_cases p bytes false e = rw e (lit≤ tt)

-- no input has a longer text than this
pub dump_most : (p : List ℕ) → ((i : ℕ) → byte p i < 256) → length (dump_text p) ≤ most_text
dump_most p bytes = input_cases p bytes (leb (length p) most_input) refl
