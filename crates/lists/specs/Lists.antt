-- Partial results, and the first item that passes a test.
use Rattle.std.specs.Prelude.{ℕ, suc, List, [], ◌∷◌, Option, Some, None, Bool, if◌then◌else◌}

-- what comes of the value, where there is one
abbrev pub onto : {A B : Type 0} → Option A → (A → Option B) → Option B
onto None f = None
onto (Some x) f = f x

-- the first index whose item passes the test
abbrev pub index_of : {A : Type 0} → (A → Bool) → List A → Option ℕ
index_of test [] = None
index_of test (x ∷ xs) = if test x then Some 0 else onto (index_of test xs) (λ k. Some (suc k))

-- the first of several partial results
abbrev pub first_some : {A : Type 0} → List (Option A) → Option A
first_some [] = None
first_some (None ∷ others) = first_some others
first_some (Some x ∷ others) = Some x

-- the first item, where there is one
abbrev pub first : {A : Type 0} → List A → Option A
first [] = None
first (x ∷ xs) = Some x
