-- What follows of these definitions.
use Rattle.std.specs.Prelude.{◌≡◌, ◌↔◌, ◌⊎◌, ℕ, ◌<◌, List, Bool, length}
use Rattle.loop_nest.specs.Digraph.{Digraph, IsDigraph, Edge}
use Rattle.loop_nest.specs.Walks.{IsHeader}
use Rattle.loop_nest.specs.Reduction.{IsReducible, Leaves}
use Rattle.loop_nest.specs.Entered.{AreAllReached}
use Rattle.loop_nest.specs.Nest.{NaturalLoop, IsNest, IsAround}
use Rattle.section_check.specs.Bounded.{IsGreatest}
use Rattle.section_check.specs.Renumbering.{IsRenumbered, AreMovedCosts}
use Rattle.path_solver.specs.Reaching.{ReachesExit, IsFlagged}
use Rattle.path_solver.specs.Longest.{bounded_loops, WalkExceeds, IterationsExceed}
use Rattle.path_solver.specs.Regions.{AreRegionsApart}
use Rattle.bytecode_model.specs.Program.{Program}
use Rattle.method_flow.specs.Graphs.{IsGraphOf, IsLiveGraph}
use Rattle.method_flow.specs.Compact.{IsCompact}
use Rattle.compact_walks.specs.Moving.{IsMoved, moved_nest}
use Rattle.compact_walks.specs.Charging.{AreOutermost}

-- ---- numbers of nodes

-- the compact graph of a method's graph, or of its live graph, is one of the kind of which the other laws speak
abbrev pub GraphsAreMoved : Type 0
GraphsAreMoved = (P : Program) (m : ℕ) (g d : Digraph) (node : ℕ → ℕ) → IsGraphOf P m g ⊎ IsLiveGraph P m g → IsCompact g d node → IsMoved g d node

abbrev pub MovedIsRenumbered : Type 0
MovedIsRenumbered = (g d : Digraph) (node : ℕ → ℕ) → IsMoved g d node → IsRenumbered d g node

-- exits are reached in both or in none
abbrev pub MovedReachesExit : Type 0
MovedReachesExit = (g d : Digraph) (node : ℕ → ℕ) → IsMoved g d node → ReachesExit d 0 ↔ ReachesExit g 0

-- the headers of loops have the other numbers
abbrev pub MovedHeaders : Type 0
MovedHeaders = (g d : Digraph) (node : ℕ → ℕ) → IsMoved g d node → (x : ℕ) → IsHeader g x ↔ ((h : ℕ) × (h < d.nodes) × IsHeader d h × (node h ≡ x))

-- and so have the loops
abbrev pub MovedIsNest : Type 0
MovedIsNest = (g d : Digraph) (node : ℕ → ℕ) → IsMoved g d node → (nest : List NaturalLoop) → IsNest d nest → IsNest g (moved_nest node nest)

-- the greatest walk costs the same
abbrev pub MovedIsGreatest : Type 0
MovedIsGreatest =
    (g d : Digraph) (node : ℕ → ℕ) → IsMoved g d node → (nest : List NaturalLoop) → IsNest d nest → (bounds fees costs others : List ℕ)
    → AreMovedCosts d node costs others
    → (value : ℕ) → IsGreatest d costs (bounded_loops nest bounds fees) value → IsGreatest g others (bounded_loops (moved_nest node nest) bounds fees) value

-- a walk exceeds 64 bits in the other graph, too
abbrev pub MovedWalkExceeds : Type 0
MovedWalkExceeds =
    (g d : Digraph) (node : ℕ → ℕ) → IsMoved g d node → (nest : List NaturalLoop) → IsNest d nest → (bounds fees costs others : List ℕ)
    → AreMovedCosts d node costs others
    → WalkExceeds d costs (bounded_loops nest bounds fees) → WalkExceeds g others (bounded_loops (moved_nest node nest) bounds fees)

-- and so do iterations, exactly where they do in the one
abbrev pub MovedIterationsExceed : Type 0
MovedIterationsExceed =
    (g d : Digraph) (node : ℕ → ℕ) → IsMoved g d node → (nest : List NaturalLoop) → IsNest d nest → (bounds fees costs others : List ℕ)
    → AreMovedCosts d node costs others
    → IterationsExceed d costs (bounded_loops nest bounds fees) ↔ IterationsExceed g others (bounded_loops (moved_nest node nest) bounds fees)

-- ---- parts of a graph

-- where the compact graph of a whole is reducible, that of a part of it is, and each header of the part is one of the whole
pub record IsSoundPart (whole part part_compact : Digraph) : Type 0 where
  pub reducible : IsReducible part_compact
  pub headers : (x : ℕ) → IsHeader part x → IsHeader whole x

abbrev pub PartsAreSound : Type 0
PartsAreSound =
    (whole part whole_compact part_compact : Digraph) (whole_node part_node : ℕ → ℕ) → IsMoved whole whole_compact whole_node
    → IsMoved part part_compact part_node
    → ((u v : ℕ) → Edge part u v → Edge whole u v) → IsReducible whole_compact → IsSoundPart whole part part_compact

-- the reduction of a graph every node of which is reached has one end
abbrev pub EndsAreOne : Type 0
EndsAreOne = (g d : Digraph) (node : ℕ → ℕ) → IsCompact g d node → (left others : List ℕ) → Leaves d left → Leaves d others → left ≡ others

-- ---- charged loops

-- none of the outermost ones lies in another
abbrev pub OutermostAreApart : Type 0
OutermostAreApart = (g : Digraph) (nest : List NaturalLoop) → IsNest g nest → (candidates flags : List Bool) → AreOutermost nest candidates flags
    → AreRegionsApart nest flags

-- a loop that may be charged and isn't lies in one that is
pub record HasFlaggedAround (nest : List NaturalLoop) (flags : List Bool) (i : ℕ) : Type 0 where
  pub loop : ℕ
  pub flagged : IsFlagged flags loop
  pub around : IsAround nest i loop

abbrev pub OthersHaveOneAround : Type 0
OthersHaveOneAround =
    (g : Digraph) (nest : List NaturalLoop) → IsDigraph g → AreAllReached g → IsNest g nest → (candidates flags : List Bool)
    → AreOutermost nest candidates flags
    → (i : ℕ) → i < length nest → IsFlagged candidates i → (¬ IsFlagged flags i) → ¬ ¬ HasFlaggedAround nest flags i
