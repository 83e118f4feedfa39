-- Tests that compute, and lists side by side.
use Rattle.std.specs.Prelude.{Bool, true, false, ◌&&◌, List, [], ◌∷◌}

-- the test is true
abbrev pub Holds : Bool → Type 0
Holds true = Unit {0}
Holds false = ⊥

-- the lists have equal length, and R holds of each two items at one index
abbrev pub AllTwo : {A B : Type 0} → (A → B → Type 0) → List A → List B → Type 0
AllTwo R [] [] = Unit {0}
AllTwo R (x ∷ xs) (y ∷ ys) = R x y × AllTwo R xs ys
AllTwo R xs ys = ⊥

-- the same of a test
abbrev pub all_two : {A B : Type 0} → (A → B → Bool) → List A → List B → Bool
all_two test [] [] = true
all_two test (x ∷ xs) (y ∷ ys) = test x y && all_two test xs ys
all_two test xs ys = false
