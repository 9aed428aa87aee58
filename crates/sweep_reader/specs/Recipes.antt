-- The packets of the sweep, each a recipe of numbers.
use Rattle.std.specs.Prelude.{ℕ, List, [], ◌∷◌, slice_index_or}
use Rattle.sweep_reader.specs.declared.recipes.Recipe.{Recipe}

-- number, byte 3, byte 4, sequence, then how many captions, services, future sections and bytes behind the footer
abbrev pub recipe : ℕ → ℕ → ℕ → ℕ → ℕ → ℕ → ℕ → ℕ → Recipe
recipe number rate flags sequence captions services futures behind =
    record {
      number = number;
      rate = rate;
      flags = flags;
      sequence = sequence;
      captions = captions;
      services = services;
      futures = futures;
      behind = behind;
    }

abbrev pub recipes : List Recipe
recipes =
    recipe 0 0x8F 0xBF 0x1234 0 4 0 0
    ∷ recipe 1 0x1F 0x03 0x0000 0 0 0 0
    ∷ recipe 2 0x2F 0x83 0x00FF 0 0 0 0
    ∷ recipe 3 0x3F 0x43 0x0100 0 0 0 0
    ∷ recipe 4 0x4F 0x43 0x4321 20 0 0 0
    ∷ recipe 5 0x5F 0x37 0x8000 0 3 0 0
    ∷ recipe 6 0x6F 0xEB 0x7FFF 2 2 0 0
    ∷ recipe 7 0x7F 0xFF 0xFEDC 31 15 0 0
    ∷ recipe 8 0x8F 0x43 0x7474 2 0 2 0
    ∷ recipe 9 0x1F 0x83 0x0A0B 0 0 0 3
    ∷ []

abbrev pub last_row : Recipe
last_row = recipe 10 0x30 0xE4 0xFFFF 1 2 1 0

-- any other number is 10
unfoldable pub recipe_of : ℕ → Recipe
recipe_of number = slice_index_or recipes number last_row
