-- The line that says what came of a program that was made to be run and bounded. It is its parts, one after another.
use Rattle.std.specs.Prelude.{ℕ, List, [], ◌∷◌, ◌++◌, map, Option, codes, decimal}
use Rattle.std.specs.List.{concat, join_with_byte}
use Rattle.certificates.specs.CertLines.{bound_text}
use Rattle.answer_lines.specs.declared.line.Counts.{Counts}

-- bytes in decimal, with a space between two
abbrev pub bytes_text : List ℕ → List ℕ
bytes_text bytes = join_with_byte 32 (map decimal bytes)

-- how many methods the program has, and the bytes that it put out
abbrev pub start_parts : (n : ℕ) → (output : List ℕ) → List (List ℕ)
start_parts n output = codes "work n=" ∷ decimal n ∷ codes " output=" ∷ bytes_text output ∷ []

-- the counts of its machine
abbrev pub counts_parts : Counts → List (List ℕ)
counts_parts counts = codes " cycles=" ∷ decimal counts.clock ∷ codes " hits=" ∷ decimal counts.hits ∷ codes " misses=" ∷ decimal counts.misses ∷ []

-- the bound of its main method in cycles, or `never`
abbrev pub end_parts : (bound : Option ℕ) → List (List ℕ)
end_parts bound = codes " bound=" ∷ bound_text bound ∷ codes "\n" ∷ []

abbrev pub work_line : (n : ℕ) → (output : List ℕ) → Counts → (bound : Option ℕ) → List ℕ
work_line n output counts bound = concat (start_parts n output ++ (counts_parts counts ++ end_parts bound))
