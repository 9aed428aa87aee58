-- What a reader shows, fed to a digest. What is absent is fed too.
use Rattle.std.specs.Prelude.{ℕ, ◌/◌, Option, is_some, unwrap_or}
use Rattle.report.specs.Digest.{fed, flag_fed, list_fed, two_fed}
use Rattle.service_entries.specs.Entries.{places}
use Rattle.reader.specs.declared.parser.CDPParser.{CDPParser}
use Rattle.service_list.specs.declared.list.MaybeServiceInfo.{MaybeServiceInfo}
use Rattle.values_time.specs.declared.time.MaybeTimeCode.{MaybeTimeCode}
use Rattle.values.specs.Rate.{row}
use Rattle.values.specs.declared.framerate.Framerate.{Framerate}

-- the low four bytes of a number, high byte first
abbrev pub four_fed : ℕ → ℕ → ℕ
four_fed digest n = two_fed (two_fed digest (n / 65536)) n

unfoldable pub rate_fed : ℕ → Option Framerate → ℕ
rate_fed digest found =
    let r = unwrap_or found (row 0 0 0) in
    four_fed (four_fed (fed (flag_fed digest (is_some found)) r.id) r.numer) r.denom

unfoldable pub time_code_fed : ℕ → MaybeTimeCode → ℕ
time_code_fed digest m =
    let t = m.time_code in
    flag_fed
    (flag_fed (fed (fed (fed (fed (flag_fed digest m.present) t.hours) t.minutes) t.seconds) t.frames) t.field)
    t.drop_frame

-- a list with all its places: those behind its count have to be fillers
unfoldable pub places_fed : ℕ → MaybeServiceInfo → ℕ
places_fed digest m = list_fed (flag_fed digest m.present) m.service_info places

unfoldable pub reader_fed : ℕ → CDPParser → ℕ
reader_fed digest s =
    places_fed (two_fed (time_code_fed (rate_fed digest s.framerate) s.time_code) s.sequence) s.service_info
