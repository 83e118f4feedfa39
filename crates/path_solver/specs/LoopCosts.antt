-- What an iteration of each loop costs at most, and what it costs to enter it.
use Rattle.std.specs.Prelude.{◌≡◌, ◌≢◌, ℕ, ◌+◌, ◌*◌, ◌<◌, List, length, take, Contains, slice_index}
use Rattle.loop_nest.specs.Nest.{NaturalLoop}
use Rattle.path_solver.specs.declared.topology.TopologicalOrder.{TopologicalOrder}
use Rattle.section_check.specs.Placing.{IsEntryAt}
use Rattle.path_solver.specs.Ordering.{NoLoopHas}
use Rattle.path_solver.specs.Distances.{limited as at_most, AreLimited}
use Rattle.path_solver.specs.Iteration.{AreOrderedMembers, IsIterationCost}

-- the members of a loop stand in the order, the header before the others
pub record IsLed (order : List ℕ) (l : NaturalLoop) : Type 0 where
  pub members : AreOrderedMembers order l.members l.header
  pub first : (j : ℕ) → j < length order → Contains l.members (slice_index order j) → slice_index order j ≢ l.header → Contains (take j order) l.header

-- each loop of which the header stands in the order is led by it
abbrev pub AreLed : List ℕ → List NaturalLoop → Type 0
AreLed order loops = (l : NaturalLoop) → Contains loops l → Contains order l.header → IsLed order l

-- what an iteration of loop i costs at most, which is l, and what its entry costs: all its iterations, and the load
pub record HasLoopCosts (p : TopologicalOrder) (l : NaturalLoop) (i : ℕ) (costs bounds loads iteration_costs fees : List ℕ) : Type 0 where
  pub dist : List ℕ
  pub iteration_cost : IsIterationCost p l.members l.header costs fees dist (slice_index iteration_costs i)
  pub fee : slice_index fees l.header ≡ at_most (slice_index bounds i * slice_index iteration_costs i + slice_index loads i)

-- each loop of which the header stands in the order has its iteration cost and its fee; the others cost nothing, and where no loop is entered no fee is paid
pub record AreLoopCosts (p : TopologicalOrder) (loops : List NaturalLoop) (costs bounds loads iteration_costs fees : List ℕ) : Type 0 where
  pub long : length iteration_costs ≡ length loops
  pub fees_long : length fees ≡ length costs
  pub limited_iteration_costs : AreLimited iteration_costs
  pub limited_fees : AreLimited fees
  pub each : (i : ℕ) (l : NaturalLoop) → IsEntryAt loops i l → Contains p.order.items l.header → HasLoopCosts p l i costs bounds loads iteration_costs fees
  pub dropped : (i : ℕ) (l : NaturalLoop) → IsEntryAt loops i l → ¬ Contains p.order.items l.header → slice_index iteration_costs i ≡ 0
  pub others : (u : ℕ) → NoLoopHas loops u → slice_index fees u ≡ 0
