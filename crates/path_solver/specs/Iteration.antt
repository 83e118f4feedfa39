-- What an iteration of a loop costs at most.
use Rattle.std.specs.Prelude.{◌≡◌, ◌≢◌, ℕ, ◌<◌, ◌≤◌, List, length, take, All, Contains, slice_index}
use Rattle.std.specs.List.Sorted.{IsStrictlyIncreasing}
use Rattle.path_solver.specs.declared.topology.TopologicalOrder.{TopologicalOrder}
use Rattle.path_solver.specs.Ordering.{AreApart}
use Rattle.path_solver.specs.Distances.{distance_limit, AreLimited, IsMost, cost_through, sources_at, IsReachedBy, ArePlaces}

-- n nodes, each behind the sources of the edges to it that close no loop
pub record IsOrderly (n : ℕ) (p : TopologicalOrder) : Type 0 where
  pub apart : AreApart p.order.items
  pub within : All (λ u. u < n) p.order.items
  pub placed : ArePlaces p.order.items n p.places.items
  pub forward_long : length p.forward ≡ n
  pub back_long : length p.back ≡ n
  pub forward_within : (u : ℕ) → All (λ v. v < n) (sources_at p.forward u)
  pub back_within : (u : ℕ) → All (λ v. v < n) (sources_at p.back u)
  pub before : (q j : ℕ) → j < length p.order.items → Contains (sources_at p.forward (slice_index p.order.items j)) q → Contains (take j p.order.items) q

-- the members of a loop stand in the order, its header among them
pub record AreOrderedMembers (order members : List ℕ) (header : ℕ) : Type 0 where
  pub rising : IsStrictlyIncreasing members
  pub heads : Contains members header
  pub listed : (u : ℕ) → Contains members u → Contains order u

-- within a loop, distances from its header; an iteration costs the greatest cost of the walks to a source of a back edge, that source included
pub record IsIterationCost (p : TopologicalOrder) (members : List ℕ) (header : ℕ) (costs fees dist : List ℕ) (iteration_cost : ℕ) : Type 0 where
  pub long : length dist ≡ length costs
  pub limited : AreLimited dist
  pub start : slice_index dist header ≡ 0
  pub each : (u : ℕ) → Contains members u → u ≢ header → IsReachedBy (sources_at p.forward) costs fees dist u
  pub most : IsMost (cost_through costs dist) (sources_at p.back header) iteration_cost
  pub small : iteration_cost ≤ distance_limit
