-- The line of a text of bounds that bounds a loop.
use Rattle.std.specs.Prelude.{ℕ, List, ◌++◌, codes, decimal}

-- the line that bounds a loop of the method of this name
abbrev pub loop_line : (name : List ℕ) → (place bound : ℕ) → List ℕ
loop_line name place bound = name ++ (codes " " ++ (decimal place ++ (codes " loop<=" ++ (decimal bound ++ codes "\n"))))
