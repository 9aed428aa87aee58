-- Bytes, and entries, that are fed first to last are a fold over them.
-- Assumes nothing.
use Rattle.std.proofs.Common.{◌≡◌, ℕ, List, [], ◌∷◌, refl, fold}
use Rattle.report.specs.Digest.{fed, all_fed, entry_fed, entries_fed}
use Rattle.service_entry.specs.declared.entry.ServiceEntry.{ServiceEntry}

pub all_folded : (digest : ℕ) (bytes : List ℕ) → fold fed digest bytes ≡ all_fed digest bytes
all_folded digest [] = refl
all_folded digest (b ∷ bytes) = all_folded (fed digest b) bytes

pub entries_folded : (digest : ℕ) (entries : List ServiceEntry) → fold entry_fed digest entries ≡ entries_fed digest entries
entries_folded digest [] = refl
entries_folded digest (e ∷ entries) = entries_folded (entry_fed digest e) entries
