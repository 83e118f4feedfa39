-- Which method of a table is asked for by a name.
use Rattle.std.specs.Prelude.{◌≡◌, ◌≢◌, ℕ, List, slice_get}
use Rattle.std.specs.Option.{IsSomeAnd}
use Rattle.method_flow.specs.Flow.{Flow}

-- the table's method of this number has the name
abbrev pub IsNamedBy : Flow → (name : List ℕ) → (method : ℕ) → Type 0
IsNamedBy f name m = IsSomeAnd (slice_get f.methods m) (λ k. k.name ≡ name)

-- and it isn't the one that starts the program
pub record IsAskedIn (f : Flow) (name : List ℕ) (m : ℕ) : Type 0 where
  pub not_boot : m ≢ f.boot
  pub is_named : IsNamedBy f name m
