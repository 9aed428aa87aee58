-- Two different sequences of each kind that the demand speaks of, and what they show.
use Rattle.std.specs.Prelude.{Bool, true, false, List, [], ◌∷◌, ◌++◌, ◌≡◌, ℕ, replicate}
use Rattle.basis.specs.Answer.{done, refused}
use Rattle.basis.specs.declared.refusal.Refusal.TheVariants.{ChecksumFailed}
use Rattle.service_list.specs.Section.{list_of}
use Rattle.service_list.specs.ServiceList.{list_absent, list_present}
use Rattle.reader.specs.Shown.{fresh_reader}
use Rattle.theorem_altered.specs.Alteration.{Altered, OtherCaptions, OtherServices}
use Rattle.theorem_altered.specs.Calls.{Shown, run_calls}
use Rattle.theorem_altered.specs.Twins.{Twin, Twins, altered, calls, first_of, flushes, same, second_of}
use Rattle.service_list.specs.declared.list.MaybeServiceInfo.{MaybeServiceInfo}
use Rattle.basis.specs.declared.answer.Answer.{Answer}

-- the dump's example, with these flags, caption bytes, service section and checksum
abbrev pub packet_with : ℕ → List ℕ → List ℕ → ℕ → List ℕ
packet_with flags captions section checksum =
    (0x96 ∷ 0x69 ∷ 0x1E ∷ 0x3F ∷ flags ∷ 0x00 ∷ 0x05 ∷ 0x71 ∷ 0xD0 ∷ 0xA0 ∷ 0x30 ∷ 0x12 ∷ 0x72 ∷ 0xE1 ∷ [])
    ++ (captions ++ (section ++ 0x74 ∷ 0x00 ∷ 0x05 ∷ checksum ∷ []))

abbrev pub captions : List ℕ
captions = 0xFC ∷ 0x41 ∷ 0x42 ∷ []

abbrev pub captions' : List ℕ
captions' = 0xFC ∷ 0x43 ∷ 0x44 ∷ []

-- digital service 1 in English, start and complete; in Spanish, start and change
abbrev pub english : List ℕ
english = 0x73 ∷ 0xD1 ∷ 0x81 ∷ 0x65 ∷ 0x6E ∷ 0x67 ∷ 0xC1 ∷ 0x3F ∷ 0xFF ∷ []

abbrev pub spanish : List ℕ
spanish = 0x73 ∷ 0xE1 ∷ 0x81 ∷ 0x73 ∷ 0x70 ∷ 0x61 ∷ 0xC1 ∷ 0x3F ∷ 0xFF ∷ []

abbrev pub packet_before : List ℕ
packet_before = packet_with 0xF7 captions english 0x3C

abbrev pub with_captions' : List ℕ
with_captions' = packet_with 0xF7 captions' english 0x38

abbrev pub with_spanish : List ℕ
with_spanish = packet_with 0xFB captions spanish 0x1E

abbrev pub with_both : List ℕ
with_both = packet_with 0xFB captions' spanish 0x1A

-- the packet, altered or not; then one with a bad checksum; then a flush
abbrev pub examples_twins : List ℕ → List Twin
examples_twins q =
    altered packet_before q (replicate 95 0x00) (replicate 96 0xA5)
    ∷ same (packet_with 0xF7 captions english 0x3D) (replicate 200 0x00) (replicate 95 0x00)
    ∷ flushes
    ∷ []

abbrev pub answers : List Shown → List Answer
answers [] = []
answers (a ∷ shown) = a.answer ∷ answers shown

abbrev pub placed : List Shown → List ℕ
placed [] = []
placed (a ∷ shown) = a.place ∷ placed shown

abbrev pub lists : List Shown → List MaybeServiceInfo
lists [] = []
lists (a ∷ shown) = a.parser.service_info ∷ lists shown

abbrev pub marks : List Shown → List Bool
marks [] = []
marks (a ∷ shown) = a.parser.caption_active ∷ marks shown

pub record Examples : Type 0 where
  pub other_captions : Twins OtherCaptions (examples_twins with_captions')
  pub other_services : Twins OtherServices (examples_twins with_spanish)
  pub both : Twins Altered (examples_twins with_both)
  -- none of them is the examples_twins as it was
  pub captions_differ : calls first_of (examples_twins with_captions') ≡ calls second_of (examples_twins with_captions') → ⊥
  pub services_differ : calls first_of (examples_twins with_spanish) ≡ calls second_of (examples_twins with_spanish) → ⊥
  pub both_differ : calls first_of (examples_twins with_both) ≡ calls second_of (examples_twins with_both) → ⊥
  -- the answers are the same, and the refusal keeps the list that is there: English packet_before, Spanish after
  pub answered : answers (run_calls fresh_reader (calls first_of (examples_twins with_spanish)))
      ≡ done 5 ∷ refused ChecksumFailed ∷ done 0 ∷ []
  pub answered_after : answers (run_calls fresh_reader (calls second_of (examples_twins with_spanish)))
      ≡ done 5 ∷ refused ChecksumFailed ∷ done 0 ∷ []
  -- so are the places: the refused checksum is the last byte
  pub stood : placed (run_calls fresh_reader (calls first_of (examples_twins with_spanish))) ≡ 0 ∷ 29 ∷ 0 ∷ []
  pub stood_after : placed (run_calls fresh_reader (calls second_of (examples_twins with_spanish))) ≡ 0 ∷ 29 ∷ 0 ∷ []
  pub listed : lists (run_calls fresh_reader (calls first_of (examples_twins with_spanish)))
      ≡ list_present (list_of english) ∷ list_present (list_of english) ∷ list_absent ∷ []
  pub listed_after : lists (run_calls fresh_reader (calls second_of (examples_twins with_spanish)))
      ≡ list_present (list_of spanish) ∷ list_present (list_of spanish) ∷ list_absent ∷ []
  -- captioning is on air, and the refusal turns the mark off, in both
  pub marked : marks (run_calls fresh_reader (calls first_of (examples_twins with_spanish))) ≡ true ∷ false ∷ false ∷ []
  pub marked_after : marks (run_calls fresh_reader (calls second_of (examples_twins with_spanish))) ≡ true ∷ false ∷ false ∷ []
