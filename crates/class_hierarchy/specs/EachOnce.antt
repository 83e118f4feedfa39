-- Lists of numbers in which each number stands once.
use Rattle.std.specs.Prelude.{ℕ, ◌==◌, not, List, [], ◌∷◌, filter}

-- the numbers of the list, each once, where it is first met
abbrev pub each_once : List ℕ → List ℕ
each_once [] = []
each_once (x ∷ xs) = x ∷ filter (λ y. not (x == y)) (each_once xs)
