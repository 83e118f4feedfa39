-- What a test answers on the items at the indices at which two lists differ.
use Rattle.std.specs.Prelude.{◌≡◌, ℕ, ◌<◌, ◌⊎◌, Bool, true, false, List, slice_get, Some, All}
use Rattle.persistent_lists.specs.declared.trees.Difference.{Difference}
use Rattle.persistent_lists.specs.Tables.{ListTable}

abbrev pub difference : (first second : ℕ) → Difference
difference x y = record { first = x; second = y }

-- the test passes at each index below the width at which the lists differ, or at one it doesn't
abbrev pub AreAnswered : (answers : Difference → Bool → Type 0) → (width : ℕ) → (xs ys : List ℕ) → Bool → Type 0
AreAnswered answers width xs ys true = (i x y : ℕ) → i < width → slice_get xs i ≡ Some x → slice_get ys i ≡ Some y → (x ≡ y) ⊎ answers (difference x y) true
AreAnswered answers width xs ys false = (i : ℕ) × (x : ℕ) × (y : ℕ) × (i < width) × (slice_get xs i ≡ Some x) × (slice_get ys i ≡ Some y)
    × answers (difference x y) false

-- the test passes at each index at which two lists differ, or at one it doesn't
abbrev pub Passing : (answers : Difference → Bool → Type 0) → (xs ys : List ℕ) → Bool → Type 0
Passing answers xs ys true = (i : ℕ) → (slice_get xs i ≡ slice_get ys i)
    ⊎ ((x : ℕ) × (y : ℕ) × (slice_get xs i ≡ Some x) × (slice_get ys i ≡ Some y) × answers (difference x y) true)
Passing answers xs ys false = (i : ℕ) × (x : ℕ) × (y : ℕ) × (slice_get xs i ≡ Some x) × (slice_get ys i ≡ Some y) × answers (difference x y) false

pub record ArePassed (answers : Difference → Bool → Type 0) (xs ys : List ℕ) (passes : Bool) : Type 0 where
  pub found : Passing answers xs ys passes

-- the test passes at each index at which the two lists of a pair differ
abbrev pub PassesOn : (answers : Difference → Bool → Type 0) → List ℕ × List ℕ → Type 0
PassesOn answers p = (i x y : ℕ) → slice_get p.0 i ≡ Some x → slice_get p.1 i ≡ Some y → (x ≡ y) ⊎ answers (difference x y) true

-- it does of each pair that is known
abbrev pub AreKnown : (answers : Difference → Bool → Type 0) → ListTable → Type 0
AreKnown answers t = All (PassesOn answers) t.known
