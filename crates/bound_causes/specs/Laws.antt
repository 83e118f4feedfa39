-- Loops of a graph whose nodes are numbered anew without gaps.
use Rattle.std.specs.Prelude.{◌≡◌, ◌↔◌, ◌⊎◌, ℕ, ◌<◌, Bool, List, map}
use Rattle.loop_nest.specs.Digraph.{Digraph, Edge}
use Rattle.loop_nest.specs.Walks.{IsReachable, IsHeader, IsMember}
use Rattle.loop_nest.specs.Nest.{NaturalLoop, IsNest}
use Rattle.bytecode_model.specs.Program.{Program}
use Rattle.method_flow.specs.declared.flow.Call.{Call}
use Rattle.method_flow.specs.Compact.{IsCompact}
use Rattle.method_flow.specs.Graphs.{IsGraphBy, IsGraphOf, IsLiveGraph}
use Rattle.flow_graph.specs.Where.{IsEdgeWhere}

-- edges lead from nodes that the entry reaches alone
abbrev pub LeadsFromReached : Digraph → Type 0
LeadsFromReached g = (u v : ℕ) → Edge g u v → IsReachable g u

-- so they do in graphs of methods, live graphs, and graphs in which some calls don't go on
abbrev pub MethodGraphsAreReached : Type 0
MethodGraphsAreReached =
    (P : Program) (m : ℕ) (calls : List Call) (goes : List Bool) (g : Digraph)
    → IsGraphOf P m g ⊎ (IsLiveGraph P m g ⊎ IsGraphBy (IsEdgeWhere P m calls goes) P m g) → LeadsFromReached g

-- a node of the compact graph is a header where it is one under its other number, and each header has a node there
abbrev pub CompactKeepsHeaders : Type 0
CompactKeepsHeaders =
    (g d : Digraph) (node : ℕ → ℕ) → LeadsFromReached g → IsCompact g d node → (x : ℕ) → IsHeader g x ↔ ((h : ℕ) × (h < d.nodes) × IsHeader d h × (node h ≡ x))

-- and the members of a loop are the same nodes
abbrev pub CompactKeepsMembers : Type 0
CompactKeepsMembers =
    (g d : Digraph) (node : ℕ → ℕ) → LeadsFromReached g → IsCompact g d node → (h : ℕ) → h < d.nodes → (x : ℕ)
    → IsMember g (node h) x ↔ ((u : ℕ) × (u < d.nodes) × IsMember d h u × (node u ≡ x))

-- a loop with other numbers of nodes
abbrev pub moved_loop : (ℕ → ℕ) → NaturalLoop → NaturalLoop
moved_loop node l = record { header = node l.header; members = map node l.members; outer = l.outer }

-- and so the loops of the compact graph, with the other numbers, are those of the graph
abbrev pub CompactKeepsNests : Type 0
CompactKeepsNests = (g d : Digraph) (node : ℕ → ℕ) (ls : List NaturalLoop) → LeadsFromReached g → IsCompact g d node → IsNest d ls
    → IsNest g (map (moved_loop node) ls)
