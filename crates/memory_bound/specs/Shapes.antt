-- The graph of a method on nodes without gaps, at each of which a walk may stop, with its loops.
use Rattle.std.specs.Prelude.{◌≡◌, ◌≢◌, ℕ, List, [], length, map, slice_index}
use Rattle.std.specs.List.{range_with_len}
use Rattle.loop_nest.specs.Digraph.{Digraph}
use Rattle.loop_nest.specs.Reduction.{IsReducible, Leaves}
use Rattle.loop_nest.specs.Nest.{NaturalLoop, IsNest, headers_of}
use Rattle.bytecode_model.specs.Program.{Program}
use Rattle.method_flow.specs.Compact.{IsCompact}
use Rattle.method_flow.specs.Graphs.{IsGraphOf}
use Rattle.bound_rules.specs.Bounding.{IsLeftWith}
use Rattle.memory_bound.specs.declared.shapes.Shape.{Shape}
use Rattle.memory_bound.specs.declared.shapes.ShapeFault.{ShapeFault}
use Rattle.memory_bound.specs.declared.shapes.ShapeFault.TheVariants.{Irreducible, NoMemory}

-- the same graph, where each node is an exit
abbrev pub all_exits : Digraph → Digraph
all_exits g = record g { exits = range_with_len 0 g.nodes }

-- ---- the nodes and loops by their numbers in the other graph

abbrev pub node_of : Shape → ℕ → ℕ
node_of s u = slice_index s.nodes u

abbrev pub members_in : (nodes : List ℕ) → NaturalLoop → List ℕ
members_in nodes l = map (slice_index nodes) l.members

abbrev pub headers_in : Shape → List ℕ
headers_in s = map (node_of s) (headers_of s.nest)

-- ---- shapes

-- the compact graph of another one, where each node is an exit, with its nest
pub record IsShapeIn (g : Digraph) (s : Shape) : Type 0 where
  pub compact : Digraph
  pub is_compact : IsCompact g compact (node_of s)
  pub long : length s.nodes ≡ compact.nodes
  pub graph : s.graph ≡ all_exits compact
  pub reducible : IsReducible s.graph
  pub nest : IsNest s.graph s.nest

-- that of the method's graph
pub record IsShapeOf (P : Program) (m : ℕ) (s : Shape) : Type 0 where
  pub graph : Digraph
  pub is_graph : IsGraphOf P m graph
  pub shape : IsShapeIn graph s

-- ---- what the reduction leaves

-- the fault names these nodes of a compact graph by their other numbers; of want of memory nothing is said
abbrev pub IsLeftAs : (node : ℕ → ℕ) → (left : List ℕ) → ShapeFault → Type 0
IsLeftAs node left (Irreducible nodes) = nodes.items ≡ map node left
IsLeftAs node left NoMemory = Unit {0}

-- the reduction of the compact graph leaves these nodes, by their other numbers
pub record LeavesIn (g : Digraph) (nodes : List ℕ) : Type 0 where
  pub compact : Digraph
  pub node : ℕ → ℕ
  pub is_compact : IsCompact g compact node
  pub left : List ℕ
  pub leaves : Leaves compact left
  pub some : left ≢ []
  pub nodes_are : nodes ≡ map node left

abbrev pub IsLeftIn : Digraph → ShapeFault → Type 0
IsLeftIn g (Irreducible nodes) = LeavesIn g nodes.items
IsLeftIn g NoMemory = Unit {0}

-- that of the method's graph leaves these
abbrev pub IsShapeFault : Program → (method : ℕ) → ShapeFault → Type 0
IsShapeFault P m (Irreducible nodes) = IsLeftWith P m nodes.items × (nodes.items ≢ [])
IsShapeFault P m NoMemory = Unit {0}
