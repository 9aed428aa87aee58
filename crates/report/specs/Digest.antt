-- What a digest comes to: of a byte, a flag, a number, bytes, entries, and a list.
use Rattle.std.specs.Prelude.{Bool, cond, List, [], ◌∷◌, ℕ, zero, suc, ◌+◌, ◌*◌, ◌/◌, ◌%◌, take}
use Rattle.basis.specs.Bytes.{byte}
use Rattle.service_list.specs.declared.list.ServiceInfo.{ServiceInfo}
use Rattle.service_entry.specs.declared.entry.ServiceEntry.{ServiceEntry}
use Rattle.service_entry.specs.declared.service.FieldOrService.{FieldOrService}
use Rattle.service_entry.specs.declared.service.FieldOrService.TheVariants.{Field, Service}

-- the one added makes a zero count, so that a block of zeros shows its length
unfoldable pub fed : ℕ → ℕ → ℕ
fed digest b = (digest % 4294967296 * 16777619 + b + 1) % 4294967296

abbrev pub flag_fed : ℕ → Bool → ℕ
flag_fed digest on = fed digest (cond on 1 0)

-- the low two bytes of a number, high byte first
abbrev pub two_fed : ℕ → ℕ → ℕ
two_fed digest n = fed (fed digest (n / 256 % 256)) (n % 256)

-- bytes, first to last
abbrev pub all_fed : ℕ → List ℕ → ℕ
all_fed digest [] = digest
all_fed digest (b ∷ bs) = all_fed (fed digest b) bs

-- 0 and a field, or 1 and a digital service
abbrev pub service_fed : ℕ → FieldOrService → ℕ
service_fed digest (Field first) = fed (fed digest 0) (cond first 1 2)
service_fed digest (Service digital) =
    flag_fed (flag_fed (fed (fed digest 1) digital.service) digital.easy_reader) digital.wide_aspect_ratio

-- the language first
unfoldable pub entry_fed : ℕ → ServiceEntry → ℕ
entry_fed digest e =
    service_fed (fed (fed (fed digest (byte e.language 0)) (byte e.language 1)) (byte e.language 2)) e.service

-- entries, first to last
abbrev pub entries_fed : ℕ → List ServiceEntry → ℕ
entries_fed digest [] = digest
entries_fed digest (e ∷ es) = entries_fed (entry_fed digest e) es

-- a list: its flags and the low byte of its count, then so many of its places
unfoldable pub list_fed : ℕ → ServiceInfo → ℕ → ℕ
list_fed digest l places =
    entries_fed (fed (flag_fed (flag_fed (flag_fed digest l.start) l.change) l.complete) (l.count % 256))
    (take places l.services)

-- a digest from 0 on, fed so many times: step takes it and how often it was fed before
unfoldable pub swept : (ℕ → ℕ → ℕ) → ℕ → ℕ
swept step zero = 0
swept step (suc n) = step (swept step n) n
