-- An order of the nodes in which each stands behind its dominators.
use Rattle.std.specs.Prelude.{◌≡◌, ℕ, ◌<◌, ◌⊎◌, ◌↔◌, true, Bool, List, length, slice_index, slice_index_or, false, All, Contains}
use Rattle.loop_nest.specs.Digraph.{Digraph, Edge}
use Rattle.loop_nest.specs.Walks.{Dominates, LeadsAround, IsReachable}

-- all nodes that are reached, each once, none before one that dominates it
pub record AreDominatorsFirst (g : Digraph) (order : List ℕ) : Type 0 where
  pub within : All (λ u. u < g.nodes) order
  pub before : (i j : ℕ) → i < j → j < length order → ¬ Dominates g (slice_index order j) (slice_index order i)
  pub complete : (u : ℕ) → IsReachable g u → Contains order u

-- the search found the nodes of `order` so far, and has still to look at the nodes of the stack
pub record IsOutward (g : Digraph) (order stack : List ℕ) (seen : List Bool) : Type 0 where
  pub long : length seen ≡ g.nodes
  pub within : All (λ u. u < g.nodes) order
  pub stack_within : All (λ u. u < g.nodes) stack
  pub seen_is : (u : ℕ) → (slice_index_or seen u false ≡ true) ↔ Contains order u
  pub around : (h u : ℕ) → ¬ Contains order h → Contains order u → LeadsAround g h 0 u
  pub waiting : (u : ℕ) → Contains stack u → (u ≡ 0) ⊎ ((p : ℕ) × Contains order p × Edge g p u)
  pub before : (i j : ℕ) → i < j → j < length order → ¬ Dominates g (slice_index order j) (slice_index order i)
  pub entry : Contains order 0 ⊎ Contains stack 0
  pub closed : (u v : ℕ) → Contains order u → Edge g u v → Contains order v ⊎ Contains stack v
