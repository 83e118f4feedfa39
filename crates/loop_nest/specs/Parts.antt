-- Parts of a graph: some of its nodes, under numbers of their own, and some of the edges among them.
use Rattle.std.specs.Prelude.{◌≡◌, ℕ, ◌<◌}
use Rattle.loop_nest.specs.Digraph.{Digraph, Edge}
use Rattle.loop_nest.specs.Entered.{AreAllReached}

-- each node of the part is another node of the whole, its entry is the entry, its edges are edges of the whole, and its entry reaches all of it
pub record IsReachedPart (whole part : Digraph) (node : ℕ → ℕ) : Type 0 where
  pub entry : node 0 ≡ 0
  pub distinct : (u v : ℕ) → u < part.nodes → v < part.nodes → node u ≡ node v → u ≡ v
  pub edges : (u v : ℕ) → Edge part u v → Edge whole (node u) (node v)
  pub reached : AreAllReached part
