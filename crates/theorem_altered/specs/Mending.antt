-- The same alterations as something that is done to a packet: bytes are put into it, and it is mended.
use Rattle.std.specs.Prelude.{List, [], ◌∷◌, ◌++◌, ℕ, ◌-◌, length, take}
use Rattle.basis.specs.Bytes.{over}
use Rattle.read_closing.specs.Closing.{checksum_of}
use Rattle.read_packet.specs.Packet.{services_at}
use Rattle.theorem_altered.specs.Alteration.{captions_from}

-- the last byte made the checksum of all others
abbrev pub mended : List ℕ → List ℕ
mended p = take (length p - 1) p ++ checksum_of p ∷ []

-- other caption bytes
abbrev pub captions_put : List ℕ → List ℕ → List ℕ
captions_put captions p = mended (over (captions_from p) captions p)

-- another service section, and another byte 4
abbrev pub section_put : List ℕ → ℕ → List ℕ → List ℕ
section_put section flags p = mended (over 4 (flags ∷ []) (over (services_at p) section p))
