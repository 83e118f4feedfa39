-- Text as 16-bit units, and the one spelling of each: JVM Specification SE 8, 4.4.7.
use Rattle.std.specs.Prelude.{ℕ, ◌+◌, ◌/◌, ◌%◌, ◌^◌, ◌<◌, Bool, ◌&&◌, nat_lt, if◌then◌else◌, List, [], ◌∷◌}
use Rattle.std.specs.List.{flat_map, AllByRecursion}

-- the units from 1 to 7F take one byte
abbrev pub is_single : ℕ → Bool
is_single unit = nat_lt 0 unit && nat_lt unit 128

-- 0 and the units from 80 to 7FF take two: five bits behind 110, and six behind 10
abbrev pub two_bytes : ℕ → List ℕ
two_bytes unit = (192 + unit / 64) ∷ (128 + unit % 64) ∷ []

-- the others take three: four bits behind 1110, and twice six behind 10
abbrev pub three_bytes : ℕ → List ℕ
three_bytes unit = (224 + unit / 4096) ∷ (128 + unit / 64 % 64) ∷ (128 + unit % 64) ∷ []

-- the bytes of a unit
abbrev pub unit_bytes : ℕ → List ℕ
unit_bytes unit = if is_single unit then unit ∷ [] else if nat_lt unit 2048 then two_bytes unit else three_bytes unit

-- the bytes of a text
abbrev pub utf8_bytes : List ℕ → List ℕ
utf8_bytes units = flat_map unit_bytes units

abbrev pub AreUnits : List ℕ → Type 0
AreUnits units = AllByRecursion (λ unit. unit < 2 ^ 16) units
