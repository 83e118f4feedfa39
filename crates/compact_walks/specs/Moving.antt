-- Graphs whose nodes have other numbers: nests, bounded loops and costs with these numbers.
use Rattle.std.specs.Prelude.{ℕ, List, map, Contains}
use Rattle.loop_nest.specs.Digraph.{Digraph, IsDigraph, Edge}
use Rattle.loop_nest.specs.Walks.{IsReachable}
use Rattle.loop_nest.specs.Nest.{NaturalLoop}
use Rattle.section_check.specs.Bounded.{BoundedLoop}
use Rattle.method_flow.specs.Compact.{IsCompact}

-- Node u of the compact graph d is node `node u` of g, whose other nodes have no edges and are no exits.
pub record IsMoved (g d : Digraph) (node : ℕ → ℕ) : Type 0 where
  pub digraph : IsDigraph g
  pub compact : IsCompact g d node
  pub edges : (u v : ℕ) → Edge g u v → IsReachable g u
  pub exits : (u : ℕ) → Contains g.exits u → IsReachable g u

-- a loop with other numbers of nodes
abbrev pub moved_natural : (ℕ → ℕ) → NaturalLoop → NaturalLoop
moved_natural node l = record l { header = node l.header; members = map node l.members }

abbrev pub moved_nest : (ℕ → ℕ) → List NaturalLoop → List NaturalLoop
moved_nest node ls = map (moved_natural node) ls

abbrev pub moved_bounded : (ℕ → ℕ) → BoundedLoop → BoundedLoop
moved_bounded node l = record l { header = node l.header; members = map node l.members }
