-- Whether a packet can be written: its checks in their order, and its length.
use Rattle.std.specs.Prelude.{Bool, ◌&&◌, List, ◌∷◌, ◌++◌, ℕ, ◌+◌, ◌%◌, eqb, leb}
use Rattle.basis.specs.declared.refusal.Refusal.TheVariants.{UnknownFramerate, WrongCaptionRun}
use Rattle.basis.specs.Check.{WriteCheck, check, when, size_when}
use Rattle.values.specs.Layout.{caption_run, footer_size, header_size, section_head_size, section_length, time_code_size, triplet_size}
use Rattle.values.specs.Rate.{known}
use Rattle.values_time.specs.Time.{time_write_checks}
use Rattle.service_list.specs.SectionWriting.{value_checks}
use Rattle.service_list.specs.declared.list.MaybeServiceInfo.{MaybeServiceInfo}
use Rattle.values.specs.declared.framerate.Framerate.{Framerate}
use Rattle.values_time.specs.declared.time.MaybeTimeCode.{MaybeTimeCode}

-- W2: a caption run has at most 93 bytes, three for each triplet
abbrev pub full_triplets : ℕ → Bool
full_triplets run = leb run caption_run && eqb (run % triplet_size) 0

-- W3 to W6, W7 and W8; what is not held is unread
abbrev pub time_code_write_checks : MaybeTimeCode → List WriteCheck
time_code_write_checks time = when time.present (time_write_checks time.time_code)

abbrev pub services_write_checks : MaybeServiceInfo → List WriteCheck
services_write_checks services = when services.present (value_checks services.service_info)

-- W1: the rate; W2: the caption run; W3 to W6: the time code; W7 and W8: count and entries of the list
abbrev pub packet_write_checks : Framerate → MaybeTimeCode → MaybeServiceInfo → ℕ → List WriteCheck
packet_write_checks rate time services run =
    check (known rate) UnknownFramerate
    ∷ check (full_triplets run) WrongCaptionRun
    ∷ time_code_write_checks time
    ++ services_write_checks services

-- the sizes of the parts: header, time code, captions, services, footer
abbrev pub time_code_length : MaybeTimeCode → ℕ
time_code_length time = size_when time.present time_code_size

abbrev pub services_length : MaybeServiceInfo → ℕ
services_length services = size_when services.present (section_length services.service_info.count)

abbrev pub packet_length : MaybeTimeCode → MaybeServiceInfo → ℕ → ℕ
packet_length time services run =
    header_size + time_code_length time + (section_head_size + run) + services_length services + footer_size
