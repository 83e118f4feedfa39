-- Graphs of methods as graphs of numbered nodes.
use Rattle.std.specs.Prelude.{◌≡◌, ◌↔◌, ℕ, ◌*◌, length, Contains}
use Rattle.std.specs.Option.{IsSomeAnd}
use Rattle.loop_nest.specs.Digraph.{Digraph, IsDigraph, Edge}
use Rattle.bytecode_model.specs.Program.{Program, body_of}
use Rattle.method_flow.specs.Nodes.{Node, number_of, IsEdge, IsExit, IsReached}
use Rattle.method_flow.specs.Live.{IsLiveEdge}

-- an edge between nodes of these numbers, the source of which is reached
pub record IsReachedEdge (IsEdgeIn : Node → Node → Type 0) (u v : ℕ) : Type 0 where
  pub source : Node
  pub target : Node
  pub reached : IsReached IsEdgeIn source
  pub edge : IsEdgeIn source target
  pub numbered : (u ≡ number_of source) × (v ≡ number_of target)

-- an exit of this number that is reached
pub record IsReachedExit (IsEdgeIn : Node → Node → Type 0) (P : Program) (m : ℕ) (u : ℕ) : Type 0 where
  pub node : Node
  pub reached : IsReached IsEdgeIn node
  pub exit : IsExit P m node
  pub numbered : u ≡ number_of node

-- The graph by these edges of a method, on two numbers for each byte of its code; a number that is no node, or isn't reached, has no edge and is no exit.
pub record IsGraphBy (IsEdgeIn : Node → Node → Type 0) (P : Program) (m : ℕ) (g : Digraph) : Type 0 where
  pub digraph : IsDigraph g
  pub size : IsSomeAnd (body_of P m) (λ b. g.nodes ≡ 2 * length b.code)
  pub edges : (u v : ℕ) → Edge g u v ↔ IsReachedEdge IsEdgeIn u v
  pub exits : (u : ℕ) → Contains g.exits u ↔ IsReachedExit IsEdgeIn P m u

-- the graph of a method
abbrev pub IsGraphOf : Program → (method : ℕ) → Digraph → Type 0
IsGraphOf P m g = IsGraphBy (IsEdge P m) P m g

-- the live graph: the part of it that a run can take
abbrev pub IsLiveGraph : Program → (method : ℕ) → Digraph → Type 0
IsLiveGraph P m g = IsGraphBy (IsLiveEdge P m) P m g
