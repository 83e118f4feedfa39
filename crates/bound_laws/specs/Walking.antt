-- Graphs whose cycles take back edges, and what exists in them.
use Rattle.std.specs.Prelude.{◌≡◌, ℕ, List, ◌∷◌, length, Contains}
use Rattle.loop_nest.specs.Digraph.{Digraph, Edge, IsDigraph}
use Rattle.loop_nest.specs.Walks.{Walk, IsReachable, IsBackEdge, IsMember, TakesEdge}
use Rattle.loop_nest.specs.Nest.{NaturalLoop, IsNest}
use Rattle.section_check.specs.Bounded.{IsGreatest}
use Rattle.path_solver.specs.Reaching.{ReachesExit}
use Rattle.path_solver.specs.Longest.{bounded_loops}

-- an edge begins at a node that the entry reaches
abbrev pub LeadsFromReached : Digraph → Type 0
LeadsFromReached g = (u v : ℕ) → Edge g u v → IsReachable g u

-- each cycle takes a back edge, as each does of a reducible graph
abbrev pub TakesBackEdges : Digraph → Type 0
TakesBackEdges g = (u v : ℕ) (ns : List ℕ) → Edge g u v → Walk g v u ns → (a h : ℕ) × TakesEdge (u ∷ ns) a h × IsBackEdge g a h

-- all these nodes are members of the loop of one of them
pub record LiesInLoop (g : Digraph) (ns : List ℕ) : Type 0 where
  pub header : ℕ
  pub visited : Contains ns header
  pub members : (x : ℕ) → Contains ns x → IsMember g header x

-- so each cycle lies in a loop
abbrev pub CyclesLieInLoops : Type 0
CyclesLieInLoops = (g : Digraph) → LeadsFromReached g → TakesBackEdges g → (u v : ℕ) (ns : List ℕ) → Edge g u v → Walk g v u ns → LiesInLoop g ns

-- A graph has a nest. Which nodes dominate others is asked finitely often, and no test here tells it: it is said that there can't be none.
abbrev pub NestsExist : Type 0
NestsExist = (g : Digraph) → IsDigraph g → LeadsFromReached g → ¬ ¬ ((nest : List NaturalLoop) × IsNest g nest)

-- where an exit is reached, there is a greatest walk that keeps the bounds
abbrev pub GreatestWalksExist : Type 0
GreatestWalksExist =
    (g : Digraph) (nest : List NaturalLoop) (costs bounds fees : List ℕ) → IsDigraph g → LeadsFromReached g → TakesBackEdges g → IsNest g nest
    → length bounds ≡ length nest → length fees ≡ length nest → ReachesExit g 0
    → ¬ ¬ ((value : ℕ) × IsGreatest g costs (bounded_loops nest bounds fees) value)
