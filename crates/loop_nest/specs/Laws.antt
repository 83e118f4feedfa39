-- What holds of every graph, of its reduction and of its loops.
use Rattle.std.specs.Prelude.{◌≡◌, ◌≢◌, ℕ, ◌<◌, ◌⊎◌, List, ◌∷◌, Contains}
use Rattle.loop_nest.specs.Digraph.{Digraph, Edge, IsDigraph}
use Rattle.loop_nest.specs.Walks.{Walk, Dominates, LeadsAround, IsReachable, IsBackEdge, IsHeader, IsMember, IsEntering, TakesEdge}
use Rattle.loop_nest.specs.Reduction.{Leaves, IsReducible}
use Rattle.loop_nest.specs.Parts.{IsReachedPart}

-- where every node is reached, the reduction leaves the same nodes in whatever order its steps are done
abbrev pub ReductionHasOneEnd : Type 0
ReductionHasOneEnd = (g : Digraph) (left other : List ℕ) → ((u : ℕ) → u < g.nodes → IsReachable g u) → Leaves g left → Leaves g other → left ≡ other

-- every node of a reducible graph is reached
abbrev pub ReducibleIsReached : Type 0
ReducibleIsReached = (g : Digraph) → IsDigraph g → IsReducible g → (u : ℕ) → u < g.nodes → IsReachable g u

-- in a reducible graph every cycle takes a back edge, so that the graph without back edges has no cycle
abbrev pub CyclesTakeBackEdges : Type 0
CyclesTakeBackEdges =
    (g : Digraph) → IsDigraph g → IsReducible g → (u v : ℕ) (ns : List ℕ) → Edge g u v → Walk g v u ns → (a h : ℕ) × TakesEdge (u ∷ ns) a h × IsBackEdge g a h

-- a header dominates the members of its loop
abbrev pub HeaderDominatesMembers : Type 0
HeaderDominatesMembers = (g : Digraph) (h x : ℕ) → IsMember g h x → Dominates g h x

-- a loop is entered at its header alone
abbrev pub LoopIsEnteredAtHeader : Type 0
LoopIsEnteredAtHeader = (g : Digraph) (h u v : ℕ) → IsEntering g h u v → v ≡ h

-- within a loop each edge to its header is a back edge
abbrev pub EdgesToHeaderAreBackEdges : Type 0
EdgesToHeaderAreBackEdges = (g : Digraph) (h u : ℕ) → IsMember g h u → Edge g u h → IsBackEdge g u h

-- of two loops with a common member that is reached, one is within the other
abbrev pub LoopsAreNested : Type 0
LoopsAreNested =
    (g : Digraph) (h k x : ℕ) → IsReachable g x → IsMember g h x → IsMember g k x
    → ((y : ℕ) → IsMember g h y → IsMember g k y) ⊎ ((y : ℕ) → IsMember g k y → IsMember g h y)

-- every walk from node 0 visits node 0
abbrev pub EntryDominatesAll : Type 0
EntryDominatesAll = (g : Digraph) (u : ℕ) → Dominates g 0 u

-- of two nodes that are reached, each dominates the other only where they are the same
abbrev pub DominanceIsAntisymmetric : Type 0
DominanceIsAntisymmetric = (g : Digraph) (a b : ℕ) → IsReachable g a → Dominates g a b → Dominates g b a → a ≡ b

-- a walk leads on from each node that it visits
abbrev pub WalksLeadOn : Type 0
WalksLeadOn = (g : Digraph) (u v x : ℕ) (ns : List ℕ) → Walk g u v ns → Contains ns x → (ms : List ℕ) × Walk g x v ms

-- a walk that ends elsewhere than where it starts comes to its end first by an edge, from a node to which it leads without its end
abbrev pub WalksComeByEdges : Type 0
WalksComeByEdges = (g : Digraph) (u w : ℕ) (ns : List ℕ) → Walk g u w ns → w ≢ u → (q : ℕ) × Edge g q w × LeadsAround g w u q

-- a part of a reducible graph is reducible, where its entry reaches all of it
abbrev pub PartsAreReducible : Type 0
PartsAreReducible = (whole part : Digraph) (node : ℕ → ℕ) → IsDigraph whole → IsReducible whole → IsDigraph part → IsReachedPart whole part node
    → IsReducible part

-- its back edges are back edges of the whole
abbrev pub PartsHaveBackEdges : Type 0
PartsHaveBackEdges =
    (whole part : Digraph) (node : ℕ → ℕ) → IsDigraph whole → IsReducible whole → IsDigraph part → IsReachedPart whole part node → (u h : ℕ)
    → IsBackEdge part u h → IsBackEdge whole (node u) (node h)

-- its headers are headers of the whole
abbrev pub PartsHaveHeaders : Type 0
PartsHaveHeaders = (whole part : Digraph) (node : ℕ → ℕ) → IsDigraph whole → IsReducible whole → IsDigraph part → IsReachedPart whole part node → (h : ℕ)
    → IsHeader part h → IsHeader whole (node h)

-- and the members of its loops are members of the whole's
abbrev pub PartsHaveMembers : Type 0
PartsHaveMembers =
    (whole part : Digraph) (node : ℕ → ℕ) → IsDigraph whole → IsReducible whole → IsDigraph part → IsReachedPart whole part node → (h x : ℕ) → IsMember part h x
    → IsMember whole (node h) (node x)
