-- Follows the code and not the rules: entries tested in one loop and put in another.
use Rattle.std.specs.Prelude.{Bool, true, cond, ◌&&◌, List, [], ◌∷◌, ℕ, leb}
use Rattle.basis.specs.Code.{put}
use Rattle.service_entry.specs.EntriesWriting.{entry_list_bytes, places_from}
use Rattle.service_entry.specs.EntryWriting.{writable}
use Rattle.service_entry.specs.declared.entry.ServiceEntry.{ServiceEntry}

-- every one of them can be written
unfoldable pub all_writable : List ServiceEntry → Bool
all_writable [] = true
all_writable (e ∷ es) = writable e.service && all_writable es

-- how many places the array of entries has that is put
abbrev pub array_places : ℕ
array_places = 15

-- so many of them are there, and can be written
unfoldable pub places_writable : List ServiceEntry → ℕ → Bool
places_writable services count = leb count array_places && all_writable (places_from services 0 count)

-- what putting them from a place on leaves: where one cannot be written, or there is no room for all, the buffer as it was
unfoldable pub entries_left : List ServiceEntry → ℕ → ℕ → List ℕ → List ℕ
entries_left services count at buffer =
    cond (places_writable services count) (put at (entry_list_bytes (places_from services 0 count)) buffer) buffer
