-- What prices are searched for.
use Rattle.std.specs.Prelude.{◌≡◌, length}
use Rattle.price_search.specs.declared.problem.Problem.{Problem}

-- the sources of edges are told for each node of the graph
pub record HasSources (q : Problem) : Type 0 where
  pub forward : length q.topology.now.forward ≡ q.graph.now.nodes
  pub back : length q.topology.now.back ≡ q.graph.now.nodes
