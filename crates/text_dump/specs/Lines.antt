-- The dump's lines below the answer's, as docs/RULES.md has them: of what a reader shows.
use Rattle.std.specs.Prelude.{Bool, cond, List, [], ◌∷◌, ◌++◌, ℕ, ◌+◌, ◌*◌, ◌/◌, Option, unwrap_or, eqb, length, get_or}
use Rattle.basis.specs.Bytes.{byte}
use Rattle.basis.specs.Made.{made}
use Rattle.values.specs.Layout.{section_head_size, triplet_size}
use Rattle.service_entry.specs.Service.{filler}
use Rattle.text.specs.Ascii.{ascii}
use Rattle.text.specs.Digits.{flag_after, hex_after, number_after, two_after}
use Rattle.text.specs.Lines.{Line}
use Rattle.reader.specs.declared.parser.CDPParser.{CDPParser}
use Rattle.service_entry.specs.declared.entry.ServiceEntry.{ServiceEntry}
use Rattle.service_entry.specs.declared.service.DigitalServiceEntry.{DigitalServiceEntry}
use Rattle.service_entry.specs.declared.service.FieldOrService.{FieldOrService}
use Rattle.service_entry.specs.declared.service.FieldOrService.TheVariants.{Field, Service}
use Rattle.service_list.specs.declared.list.MaybeServiceInfo.{MaybeServiceInfo}
use Rattle.service_list.specs.declared.list.ServiceInfo.{ServiceInfo}
use Rattle.values.specs.Rate.{row}
use Rattle.values.specs.declared.framerate.Framerate.{Framerate}
use Rattle.values_time.specs.declared.time.MaybeTimeCode.{MaybeTimeCode}
use Rattle.values_time.specs.declared.time.TimeCode.{TimeCode}

-- the rate's id, and its two numbers
unfoldable pub rate_line : Framerate → Line
rate_line r = number_after "rate " r.id ++ number_after " " r.numer ++ number_after "/" r.denom

unfoldable pub sequence_line : ℕ → Line
sequence_line sequence = number_after "sequence " sequence

-- hours, minutes, seconds and frames, each in two digits; field and drop frame
abbrev pub four_text : TimeCode → List ℕ
four_text t = two_after "time " t.hours ++ two_after ":" t.minutes ++ two_after ":" t.seconds ++ two_after ":" t.frames

abbrev pub clock_line : TimeCode → Line
clock_line t = four_text t ++ flag_after " field " t.field ++ flag_after " drop " t.drop_frame

unfoldable pub time_line : MaybeTimeCode → Line
time_line t = cond t.present (clock_line t.time_code) (ascii "time none")

-- of the bytes that a reader hands out: three for each triplet, behind the two in front of them
abbrev pub triplet_count : List ℕ → ℕ
triplet_count handed_out = length handed_out / triplet_size

abbrev pub triplet_line : List ℕ → ℕ → Line
triplet_line handed_out k =
    let at = section_head_size + triplet_size * k in
    hex_after "" (byte handed_out at) ++ hex_after " " (byte handed_out (at + 1)) ++ hex_after " " (byte handed_out (at + 2))

-- the count of captions, then each triplet; none are handed out without a caption section
unfoldable pub caption_lines : List ℕ → List Line
caption_lines handed_out =
    cond (eqb (length handed_out) 0)
    (ascii "captions none" ∷ [])
    (number_after "captions " (triplet_count handed_out) ∷ made (triplet_line handed_out) (triplet_count handed_out))

-- an entry: its number or its field, the bytes of its language and, if it is digital, its two flags
abbrev pub language_text : List ℕ → List ℕ
language_text language = hex_after " " (byte language 0) ++ hex_after "" (byte language 1) ++ hex_after "" (byte language 2)

abbrev pub field_line : Bool → List ℕ → Line
field_line first language = number_after "field " (cond first 1 2) ++ language_text language

abbrev pub digital_line : DigitalServiceEntry → List ℕ → Line
digital_line d language =
    number_after "digital " d.service ++ language_text language ++ flag_after " easy " d.easy_reader
    ++ flag_after " wide " d.wide_aspect_ratio

abbrev pub service_line : FieldOrService → List ℕ → Line
service_line (Field first) language = field_line first language
service_line (Service d) language = digital_line d language

unfoldable pub entry_line : ServiceEntry → Line
entry_line e = service_line e.service e.language

-- the entry at a place
abbrev pub place_line : List ServiceEntry → ℕ → Line
place_line services k = entry_line (get_or services k filler)

-- the count of entries with start, change and complete, then each entry
abbrev pub list_line : ServiceInfo → Line
list_line l =
    number_after "services " l.count ++ flag_after " start " l.start ++ flag_after " change " l.change
    ++ flag_after " complete " l.complete

unfoldable pub service_lines : MaybeServiceInfo → List Line
service_lines l =
    cond l.present
    (list_line l.service_info ∷ made (place_line l.service_info.services) l.service_info.count)
    (ascii "services none" ∷ [])

-- whether captioning is on air
unfoldable pub active_line : Bool → Line
active_line active = flag_after "active " active

-- the rate that is shown: zeros where there is none
abbrev pub rate_shown : Option Framerate → Framerate
rate_shown found = unwrap_or found (row 0 0 0)

-- what a reader shows of an accepted packet, which has a rate, and what it handed out
unfoldable pub shown_lines : CDPParser → List ℕ → List Line
shown_lines s handed_out =
    rate_line (rate_shown s.framerate)
    ∷ sequence_line s.sequence
    ∷ time_line s.time_code
    ∷ (caption_lines handed_out ++ (service_lines s.service_info ++ active_line s.caption_active ∷ []))
