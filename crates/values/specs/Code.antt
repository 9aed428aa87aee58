-- Follows the code and not the rules: what stands beside a refusal, and the constants that are held.
use Rattle.std.specs.Prelude.{ℕ, List, [], ◌∷◌}
use Rattle.values.specs.Layout.{
  caption_room,
  caption_run,
  captions_id,
  footer_id,
  footer_size,
  header_size,
  least_size,
  section_entry_size,
  section_head_size,
  services_id,
  time_code_id,
  time_code_size,
  triplet_size,
}

abbrev pub layout_constants : List ℕ
layout_constants = least_size ∷ time_code_id ∷ captions_id ∷ services_id ∷ footer_id ∷ []

abbrev pub layout_sizes : List ℕ
layout_sizes =
    header_size ∷ time_code_size ∷ section_head_size ∷ triplet_size ∷ section_entry_size ∷ footer_size ∷ caption_room ∷ caption_run ∷ []

-- each flag's bit: time code, captions, services, start, change, complete, caption service active, reserved
abbrev pub bits : List ℕ
bits = 0x80 ∷ 0x40 ∷ 0x20 ∷ 0x10 ∷ 0x08 ∷ 0x04 ∷ 0x02 ∷ 0x01 ∷ []
