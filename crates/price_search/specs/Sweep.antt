-- How many numbers a sweep has.
use Rattle.std.specs.Prelude.{◌≡◌, length}
use Rattle.price_search.specs.declared.problem.Problem.{Problem}
use Rattle.price_search.specs.declared.sweep.Sweep.{Sweep}

-- a number for each node, and for each loop
pub record IsWide (q : Problem) (s : Sweep) : Type 0 where
  pub iteration_costs : length s.iteration_costs.items ≡ length q.nest.now
  pub fees : length s.fees.items ≡ q.graph.now.nodes
  pub dist : length s.dist.items ≡ q.graph.now.nodes
  pub before : length s.before.items ≡ q.graph.now.nodes

-- as many numbers as before
pub record AreSameWidths (s s' : Sweep) : Type 0 where
  pub iteration_costs : length s'.iteration_costs.items ≡ length s.iteration_costs.items
  pub fees : length s'.fees.items ≡ length s.fees.items
  pub dist : length s'.dist.items ≡ length s.dist.items
  pub before : length s'.before.items ≡ length s.before.items
