-- The opcodes that move values (JVM Specification SE 8, chapter 6).
use Rattle.std.specs.Prelude.{ℕ, ◌==◌, ◌||◌, Bool, List, [], ◌∷◌}
use Rattle.std.specs.List.{list_any}

abbrev pub is_among : List ℕ → ℕ → Bool
is_among ks op = list_any (λ k. k == op) ks

-- nop, constants, and those of the pool
abbrev pub constants : List ℕ
constants = 0 ∷ 1 ∷ 2 ∷ 3 ∷ 4 ∷ 5 ∷ 6 ∷ 7 ∷ 8 ∷ 9 ∷ 10 ∷ 16 ∷ 17 ∷ 18 ∷ 19 ∷ 20 ∷ []

-- loads of local variables
abbrev pub loads : List ℕ
loads = 21 ∷ 22 ∷ 25 ∷ 26 ∷ 27 ∷ 28 ∷ 29 ∷ 30 ∷ 31 ∷ 32 ∷ 33 ∷ 42 ∷ 43 ∷ 44 ∷ 45 ∷ []

-- stores into local variables
abbrev pub stores : List ℕ
stores = 54 ∷ 55 ∷ 58 ∷ 59 ∷ 60 ∷ 61 ∷ 62 ∷ 63 ∷ 64 ∷ 65 ∷ 66 ∷ 75 ∷ 76 ∷ 77 ∷ 78 ∷ []

-- pop to swap
abbrev pub shuffles : List ℕ
shuffles = 87 ∷ 88 ∷ 89 ∷ 90 ∷ 91 ∷ 92 ∷ 93 ∷ 94 ∷ 95 ∷ []

-- iinc and wide
abbrev pub others : List ℕ
others = 132 ∷ 196 ∷ []

abbrev pub moves_values : ℕ → Bool
moves_values op = is_among constants op || is_among loads op || is_among stores op || is_among shuffles op || is_among others op
