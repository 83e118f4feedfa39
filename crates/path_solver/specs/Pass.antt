-- What a pass over a graph finds, where an exit is reached from its entry.
use Rattle.std.specs.Prelude.{ℕ, ◌↔◌, Bool, List, IsTrue}
use Rattle.loop_nest.specs.Digraph.{Digraph}
use Rattle.loop_nest.specs.Nest.{NaturalLoop}
use Rattle.path_solver.specs.Reaching.{IsFlagged, AreReaching}
use Rattle.path_solver.specs.Distances.{IsMost, cost_through}
use Rattle.path_solver.specs.Totals.{SomeIterationsExceed}
use Rattle.path_solver.specs.Problem.{AreMeasures}

-- the nodes from which an exit is reached are flagged, node 0 among them; the measures of the graph, the greatest cost at an exit, and whether
-- iterations exceed 64 bits
pub record IsPass (g : Digraph) (loops : List NaturalLoop) (costs bounds loads : List ℕ) (flags : List Bool) (iteration_costs dist : List ℕ) (value : ℕ)
    (exceed : Bool) : Type 0 where
  pub reaching : AreReaching g flags
  pub entry : IsFlagged flags 0
  pub measures : AreMeasures g loops flags costs bounds loads iteration_costs dist
  pub most : IsMost (cost_through costs dist) g.exits value
  pub turns : IsTrue exceed ↔ SomeIterationsExceed loops iteration_costs g.nodes
