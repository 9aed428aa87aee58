-- Demand 2's round trip: what was written, and the values that reading it gives back.
use Rattle.std.specs.Prelude.{Bool, true, cond, ◌&&◌, List, ◌∷◌, ◌≡◌, ℕ, ◌+◌, ◌/◌, Some, length, take}
use Rattle.basis.specs.Answer.{done}
use Rattle.basis.specs.Bytes.{over}
use Rattle.basis.specs.Check.{size_when}
use Rattle.values.specs.Layout.{header_size, section_head_size, section_length, time_code_size, triplet_size}
use Rattle.service_list.specs.SectionBack.{all_of_three, before_field_two, names_field_two}
use Rattle.service_entries.specs.Entries.{filled}
use Rattle.service_list.specs.ServiceList.{list, list_absent, list_present}
use Rattle.service_list.specs.SectionWriting.{counted}
use Rattle.reader.specs.Shown.{state}
use Rattle.writer.specs.Writer.{held_time, held_written}
use Rattle.reader.specs.declared.parser.CDPParser.{CDPParser}
use Rattle.reader.specs.declared.parser.CDPParserRead.{CDPParserRead}
use Rattle.service_list.specs.declared.list.MaybeServiceInfo.{MaybeServiceInfo}
use Rattle.service_list.specs.declared.list.ServiceInfo.{ServiceInfo}
use Rattle.values.specs.declared.framerate.Framerate.{Framerate}
use Rattle.writer.specs.declared.writer.CDPWriter.{CDPWriter}

-- what was written: as many first bytes of the lent buffer as the answer says
abbrev pub written_packet : CDPWriter → Framerate → List ℕ → List ℕ → List ℕ
written_packet w rate captions buffer =
    take (held_written w rate captions buffer).answer.first (held_written w rate captions buffer).buffer

-- whether a counted entry of a list that is held names field 2
abbrev pub field_two : MaybeServiceInfo → Bool
field_two services = services.present && names_field_two (counted services.service_info)

-- and where the header byte of the first such entry stands in what was written: behind the header, the time code, the
-- captions, and the entries in front of it
abbrev pub field_two_at : CDPWriter → List ℕ → ℕ
field_two_at w captions =
    header_size + size_when w.time_code.present time_code_size + (section_head_size + length captions)
    + section_length (before_field_two (counted w.service_info.service_info))

-- every counted language of a list that is held has three bytes, as the type of a language says
abbrev pub Languages : CDPWriter → Type 0
Languages w = w.service_info.present ≡ true → all_of_three (counted w.service_info.service_info) ≡ true

-- the list's flags, count and counted entries, with the filler in the other places; absent where none is held
abbrev pub list_back : ServiceInfo → ServiceInfo
list_back l = list l.start l.change l.complete (filled (counted l)) l.count

abbrev pub services_back : MaybeServiceInfo → MaybeServiceInfo
services_back services = cond services.present (list_present (list_back services.service_info)) list_absent

-- rate, time code and whether it is held, sequence, services and whether they are held; the caption-active mark is on
abbrev pub shown_back : CDPWriter → Framerate → CDPParser
shown_back w rate = state (Some rate) (held_time w.time_code) w.sequence (services_back w.service_info) true

-- the captions, behind the two bytes that the reader hands out before them
abbrev pub captions_back : List ℕ → List ℕ
captions_back captions = (0xC0 + length captions / triplet_size) ∷ 0xFF ∷ captions

-- reading answers 0 with the captions' length, shows the values, and leaves the captions at the start of the lent buffer
pub record ReadBack (w : CDPWriter) (rate : Framerate) (captions lent : List ℕ) (got : CDPParserRead) (after : List ℕ) : Type 0 where
  pub read : got ≡ record { answer = done (section_head_size + length captions); place = 0; parser = shown_back w rate }
  pub handed : after ≡ over 0 (captions_back captions) lent
