-- The graph of a method on its reached nodes alone, by place, an instruction before its raise step.
use Rattle.std.specs.Prelude.{◌≡◌, ℕ, Bool, false, if◌then◌else◌, List, length, slice_index_or}
use Rattle.loop_nest.specs.Digraph.{Digraph}
use Rattle.bytecode_model.specs.Program.{Program}
use Rattle.method_flow.specs.Compact.{IsCompact}
use Rattle.method_flow.specs.Graphs.{IsGraphOf}
use Rattle.method_flow.specs.Nodes.{Node, At, RaiseAt, number_of}
use Rattle.flow_graph.specs.declared.numbering.MethodGraph.{MethodGraph}

-- the instruction at the place or, where the flag is true, its raise step
abbrev pub node_of : ℕ × Bool → Node
node_of n = if n.1 then RaiseAt n.0 else At n.0

-- the number in the method's graph of a node of the compact one
abbrev pub number_at : List (ℕ × Bool) → ℕ → ℕ
number_at nodes u = number_of (node_of (slice_index_or nodes u (0, false)))

-- it is the compact graph of the method's graph
pub record IsMethodGraph (P : Program) (m : ℕ) (c : MethodGraph) : Type 0 where
  pub whole : Digraph
  pub is : IsGraphOf P m whole
  pub compact : IsCompact whole c.graph (number_at c.nodes)
  pub long : length c.nodes ≡ c.graph.nodes
