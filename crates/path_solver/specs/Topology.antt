-- The listed nodes in order, with the edges by which each is reached.
use Rattle.std.specs.Prelude.{ℕ, List, Bool, true, false}
use Rattle.loop_nest.specs.Digraph.{Digraph, AreSources}
use Rattle.loop_nest.specs.Nest.{NaturalLoop}
use Rattle.path_solver.specs.Ordering.{AreTaken, IsForwardOrder}
use Rattle.path_solver.specs.Distances.{ArePlaces}
use Rattle.path_solver.specs.declared.topology.TopologicalOrder.{TopologicalOrder}

-- the edges to flagged nodes that close no loop and those that do, the order that the former give, and the sources of both
pub record IsTopologicalOrder (g : Digraph) (loops : List NaturalLoop) (flags : List Bool) (p : TopologicalOrder) : Type 0 where
  pub onward : List (ℕ × ℕ)
  pub backward : List (ℕ × ℕ)
  pub are_onward : AreTaken g.edges loops flags false onward
  pub are_backward : AreTaken g.edges loops flags true backward
  pub ordered : IsForwardOrder flags onward p.order.items
  pub placed : ArePlaces p.order.items g.nodes p.places.items
  pub forward_sources : AreSources onward g.nodes p.forward
  pub back_sources : AreSources backward g.nodes p.back
