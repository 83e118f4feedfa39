-- Methods of the table by name.
use Rattle.std.specs.Prelude.{◌≡◌, ◌≢◌, ℕ, ◌<◌, List, Option, Some, None, slice_get}
use Rattle.std.specs.Option.{IsSomeAnd}
use Rattle.method_flow.specs.Flow.{Coded, Flow}

-- no method before this number has the name
abbrev pub NoneBefore : Flow → (name : List ℕ) → ℕ → Type 0
NoneBefore f name n = (m : ℕ) (k : Coded) → m < n → slice_get f.methods m ≡ Some k → k.name ≢ name

-- the least number of a method of this name; none where no method has it
abbrev pub IsFirstNamed : Flow → (name : List ℕ) → Option ℕ → Type 0
IsFirstNamed f name None = (m : ℕ) (k : Coded) → slice_get f.methods m ≡ Some k → k.name ≢ name
IsFirstNamed f name (Some n) = IsSomeAnd (slice_get f.methods n) (λ k. k.name ≡ name) × NoneBefore f name n
