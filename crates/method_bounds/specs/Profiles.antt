-- The lines of a profile: of each method of which an activation has ended its name, how many have, the greatest and the sum of their cycles, the sum of their
-- misses, and its bound.
use Rattle.std.specs.Prelude.{◌==◌, ℕ, suc, List, [], ◌∷◌, ◌++◌, codes, decimal, if◌then◌else◌}
use Rattle.run_follower.specs.declared.watch.profile.Profile.{Profile}
use Rattle.method_bounds.specs.declared.answer.BoundAnswer.{BoundAnswer}
use Rattle.method_bounds.specs.declared.answer.BoundAnswer.TheVariants.{Cycles, Never, Refused}

-- the number that is printed of the method, `never`, or `none`
abbrev pub bound_word : BoundAnswer → List ℕ
bound_word (Cycles n) = decimal n
bound_word Never = codes "never"
bound_word (Refused cause) = codes "none"

abbrev pub counts_text : (name : List ℕ) → Profile → (bound : List ℕ) → List ℕ
counts_text name row bound =
    name ++ (codes " count=" ++ (decimal row.count ++ (codes " greatest=" ++ (decimal row.most ++ (codes " total=" ++ (decimal row.total
    ++ (codes " misses=" ++ (decimal row.misses ++ (codes " bound=" ++ (bound ++ codes "\n"))))))))))

-- the method's line, if it has one
abbrev pub profile_line : (name : List ℕ) → Profile → BoundAnswer → List ℕ
profile_line name row x = if row.count == 0 then [] else counts_text name row (bound_word x)

-- the lines of the methods from this one on, of which these are the rows and the answers
abbrev pub profile_lines : (name : ℕ → List ℕ) → (method : ℕ) → List Profile → List BoundAnswer → List ℕ
profile_lines name m [] xs = []
profile_lines name m (row ∷ rows) [] = []
profile_lines name m (row ∷ rows) (x ∷ xs) = profile_line (name m) row x ++ profile_lines name (suc m) rows xs
