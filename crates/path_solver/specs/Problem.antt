-- What a solution is found from: a reducible graph with its nest, the nodes from which an exit is reached, the topological order of them, and distances.
use Rattle.std.specs.Prelude.{◌≡◌, ℕ, List, Bool, length}
use Rattle.loop_nest.specs.Digraph.{Digraph, IsDigraph}
use Rattle.loop_nest.specs.Reduction.{IsReducible}
use Rattle.loop_nest.specs.Nest.{NaturalLoop, IsNest}
use Rattle.loop_nest.specs.Laws.{ReducibleIsReached, HeaderDominatesMembers, LoopIsEnteredAtHeader, EdgesToHeaderAreBackEdges, LoopsAreNested}
use Rattle.loop_nest.specs.Laws.{EntryDominatesAll, DominanceIsAntisymmetric, WalksLeadOn, WalksComeByEdges}
use Rattle.section_check.specs.Laws.{AcceptedBoundWalks, AcceptedBoundIterations}
use Rattle.path_solver.specs.declared.topology.TopologicalOrder.{TopologicalOrder}
use Rattle.path_solver.specs.Reaching.{AreReaching, IsFlagged}
use Rattle.path_solver.specs.Topology.{IsTopologicalOrder}
use Rattle.path_solver.specs.Distances.{AreLimited, sources_at, IsReachedBy}
use Rattle.path_solver.specs.LoopCosts.{AreLoopCosts}

-- what holds of all graphs and of all sections
pub record AreNestLaws : Type 0 where
  pub reached : ReducibleIsReached
  pub dominates : HeaderDominatesMembers
  pub entered : LoopIsEnteredAtHeader
  pub back : EdgesToHeaderAreBackEdges
  pub nested : LoopsAreNested
  pub entry : EntryDominatesAll
  pub antisymmetric : DominanceIsAntisymmetric
  pub leads_on : WalksLeadOn
  pub comes_by : WalksComeByEdges
  pub walks : AcceptedBoundWalks
  pub iterations : AcceptedBoundIterations

-- a reducible graph with its nest, the nodes from which an exit is reached, and the topological order of them
pub record IsProblem (g : Digraph) (loops : List NaturalLoop) (flags : List Bool) (p : TopologicalOrder) : Type 0 where
  pub laws : AreNestLaws
  pub digraph : IsDigraph g
  pub reducible : IsReducible g
  pub nest : IsNest g loops
  pub reaching : AreReaching g flags
  pub topology : IsTopologicalOrder g loops flags p

-- the same with what iterations cost at most, fees, and the distance of each listed node
pub record IsMeasured (g : Digraph) (loops : List NaturalLoop) (flags : List Bool) (p : TopologicalOrder)
    (costs bounds loads iteration_costs fees dist : List ℕ) : Type 0 where
  pub setting : IsProblem g loops flags p
  pub costs_long : length costs ≡ g.nodes
  pub bounds_long : length bounds ≡ length loops
  pub loads_long : length loads ≡ length loops
  pub loop_costs : AreLoopCosts p loops costs bounds loads iteration_costs fees
  pub dist_long : length dist ≡ length costs
  pub dist_limited : AreLimited dist
  pub each : (u : ℕ) → IsFlagged flags u → IsReachedBy (sources_at p.forward) costs fees dist u

-- some topological order and fees give these iteration costs and distances
pub record AreMeasures (g : Digraph) (loops : List NaturalLoop) (flags : List Bool) (costs bounds loads iteration_costs dist : List ℕ) : Type 0 where
  pub topology : TopologicalOrder
  pub fees : List ℕ
  pub measured : IsMeasured g loops flags topology costs bounds loads iteration_costs fees dist
