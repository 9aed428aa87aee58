-- A packet that is accepted, made from its recipe, part by part.
use Rattle.std.specs.Prelude.{ℕ, zero, suc, ◌+◌, ◌*◌, ◌/◌, ◌%◌, Bool, cond, List, [], ◌∷◌, ◌++◌, length, take, replicate, ◌==◌, slice_set}
use Rattle.values.specs.Layout.{time_code_id, captions_id, services_id, footer_id}
use Rattle.values.specs.Sequence.{sequence_bytes}
use Rattle.basis.specs.Bytes.{byte}
use Rattle.basis.specs.Made.{made}
use Rattle.report.specs.Recipe.{names}
use Rattle.sweep_reader.specs.Mend.{packet_mended}
use Rattle.sweep_reader.specs.declared.recipes.Recipe.{Recipe}

-- every third service is a field
abbrev pub field_made : ℕ → Bool
field_made k = k % 3 == 2

-- the seven bytes of service k in a packet; all have flags, which a field drops
abbrev pub entry_made : ℕ → ℕ → List ℕ
entry_made packet k =
    let named = names (field_made k) (k / 3) k in
    byte named 0 ∷ (0x61 + k % 16) ∷ (0x61 + packet % 16) ∷ 0x7A ∷ byte named 1 ∷ (k % 4 * 0x40 + 0x3F) ∷ 0xFF ∷ []

unfoldable pub entries_made : ℕ → ℕ → List ℕ
entries_made packet zero = []
entries_made packet (suc k) = entries_made packet k ++ entry_made packet k

-- the size comes when all else is there
abbrev pub header_made : Recipe → List ℕ
header_made r = 0x96 ∷ 0x69 ∷ 0 ∷ r.rate ∷ r.flags ∷ sequence_bytes r.sequence

-- no bytes where a bit of the flags is clear
abbrev pub if_set : ℕ → List ℕ → List ℕ
if_set bit bytes = cond (bit == 0) [] bytes

unfoldable pub time_code_made : Recipe → List ℕ
time_code_made r = if_set (r.flags / 0x80 % 2) (time_code_id ∷ (0xD0 + r.number % 16) ∷ 0xB4 ∷ 0xA5 ∷ 0x99 ∷ [])

abbrev pub caption_byte : ℕ → ℕ → ℕ
caption_byte number k = (k * 7 + number) % 256

unfoldable pub captions_made : Recipe → List ℕ
captions_made r =
    if_set (r.flags / 0x40 % 2)
    ((captions_id ∷ (0xE0 + r.captions % 32) ∷ []) ++ made (caption_byte r.number) (3 * (r.captions % 32)))

-- the section's three flags stand two bits higher than the header's
unfoldable pub services_made : Recipe → List ℕ
services_made r =
    if_set (r.flags / 0x20 % 2)
    ((services_id ∷ (0x80 + r.flags / 4 % 8 * 16 + r.services % 16) ∷ []) ++ entries_made r.number (r.services % 16))

-- a future section's content could be the footer
abbrev pub future_made : ℕ → ℕ → List ℕ
future_made id size = (id ∷ size ∷ []) ++ replicate size footer_id

-- ten bytes in all, whose content the first section has
unfoldable pub futures_made : ℕ → List ℕ
futures_made count =
    cond (count == 0) [] (cond (count == 1) (future_made 0x75 8) (future_made 0x75 6 ++ future_made 0xEF 0))

abbrev pub footer_made : ℕ → List ℕ
footer_made sequence = footer_id ∷ sequence / 256 ∷ sequence % 256 ∷ 0x5A ∷ []

-- all parts, each behind the one before it
unfoldable pub parts_made : Recipe → List ℕ
parts_made r =
    header_made r ++ time_code_made r ++ captions_made r ++ services_made r ++ futures_made r.futures
    ++ footer_made r.sequence
    ++ replicate r.behind footer_id

-- the size in its place, and the checksum right
unfoldable pub finished : ℕ → List ℕ → List ℕ
finished behind p = packet_mended behind (slice_set p 2 (length p % 256))

-- as much of the packet as there is room for; all of it where there is enough
unfoldable pub packet_made : Recipe → ℕ → List ℕ
packet_made r room = finished r.behind (take room (parts_made r))
