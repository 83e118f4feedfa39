-- What iterations of the loops that hold a node cost at most together.
use Rattle.std.specs.Prelude.{◌≡◌, ℕ, ◌+◌, ◌^◌, ◌<◌, ◌≤◌, if◌then◌else◌, List, [], ◌∷◌, length, Contains, slice_index}
use Rattle.loop_nest.specs.Nest.{NaturalLoop}
use Rattle.section_check.specs.Bounded.{holds}
use Rattle.path_solver.specs.Distances.{limited as at_most, AreLimited}

-- an iteration cost was added at each of the members, and nowhere else
pub record AreIterationsAdded (members : List ℕ) (iteration_cost : ℕ) (old new : List ℕ) : Type 0 where
  pub long : length new ≡ length old
  pub limited : AreLimited new
  pub inside : (u : ℕ) → Contains members u → slice_index new u ≡ at_most (slice_index old u + iteration_cost)
  pub outside : (u : ℕ) → ¬ Contains members u → slice_index new u ≡ slice_index old u

-- one iteration of each loop that holds u
abbrev pub iteration_costs_around : List NaturalLoop → List ℕ → ℕ → ℕ
iteration_costs_around [] iteration_costs u = 0
iteration_costs_around (l ∷ ls) [] u = 0
iteration_costs_around (l ∷ ls) (iteration_cost ∷ iteration_costs) u =
    (if holds l.members u then iteration_cost else 0) + iteration_costs_around ls iteration_costs u

-- one iteration of each loop that holds some node of n exceeds 64 bits
pub record SomeIterationsExceed (loops : List NaturalLoop) (iteration_costs : List ℕ) (n : ℕ) : Type 0 where
  pub node : ℕ
  pub below : node < n
  pub exceeds : 2 ^ 64 ≤ iteration_costs_around loops iteration_costs node
