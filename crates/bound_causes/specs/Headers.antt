-- The headers of the loops of a method's graph, and those for which no bound is given.
use Rattle.std.specs.Prelude.{◌≡◌, ◌↔◌, ℕ, ◌*◌, List, Contains, None}
use Rattle.std.specs.List.Sorted.{IsStrictlyIncreasing}
use Rattle.loop_nest.specs.Digraph.{Digraph}
use Rattle.loop_nest.specs.Walks.{IsHeader}
use Rattle.bytecode_model.specs.Program.{Program}
use Rattle.method_flow.specs.Graphs.{IsGraphOf}
use Rattle.method_flow.specs.Keeping.{BoundOf}

-- the instruction at the place heads a loop of the method's graph
pub record HeadsLoop (P : Program) (m place : ℕ) : Type 0 where
  pub graph : Digraph
  pub is_graph : IsGraphOf P m graph
  pub header : IsHeader graph (2 * place)

-- exactly the places of such instructions, rising
pub record AreHeaderPlaces (P : Program) (m : ℕ) (places : List ℕ) : Type 0 where
  pub rising : IsStrictlyIncreasing places
  pub each : (p : ℕ) → Contains places p ↔ HeadsLoop P m p

-- it heads a loop for which no bound is given
pub record HeadsUnbounded (P : Program) (bound_of : BoundOf) (m place : ℕ) : Type 0 where
  pub heads : HeadsLoop P m place
  pub none : bound_of m place ≡ None
