-- The opcodes of fields and of arrays (JVM Specification SE 8, chapter 6).
use Rattle.std.specs.Prelude.{ℕ, ◌==◌, Bool, List, [], ◌∷◌}
use Rattle.std.specs.List.{list_any}

-- getstatic, putstatic, getfield, putfield
abbrev pub field_opcodes : List ℕ
field_opcodes = 178 ∷ 179 ∷ 180 ∷ 181 ∷ []

abbrev pub is_of_field : ℕ → Bool
is_of_field op = list_any (λ k. k == op) field_opcodes

-- iaload, laload, aaload, baload, caload, saload; iastore, lastore, aastore, bastore, castore, sastore; arraylength
abbrev pub array_opcodes : List ℕ
array_opcodes = 46 ∷ 47 ∷ 50 ∷ 51 ∷ 52 ∷ 53 ∷ 79 ∷ 80 ∷ 83 ∷ 84 ∷ 85 ∷ 86 ∷ 190 ∷ []

abbrev pub is_of_array : ℕ → Bool
is_of_array op = list_any (λ k. k == op) array_opcodes
