-- The graph of a method with its nodes numbered without gaps, by place, an instruction before its raise step; whether a graph is reducible is asked
-- of this one.
use Rattle.std.specs.Prelude.{◌≡◌, ◌↔◌, ℕ, ◌<◌, Contains}
use Rattle.loop_nest.specs.Digraph.{Digraph, IsDigraph, Edge}
use Rattle.loop_nest.specs.Walks.{IsReachable}

-- Node number u of the compact graph is number `node u` of the other. It has just the nodes that node 0 reaches, in their order, with their edges and exits.
pub record IsCompact (g d : Digraph) (node : ℕ → ℕ) : Type 0 where
  pub digraph : IsDigraph d
  pub entry : node 0 ≡ 0
  pub rising : (u v : ℕ) → v < d.nodes → u < v → node u < node v
  pub edges : (u v : ℕ) → Edge d u v ↔ ((u < d.nodes) × (v < d.nodes) × Edge g (node u) (node v))
  pub exits : (u : ℕ) → Contains d.exits u ↔ ((u < d.nodes) × Contains g.exits (node u))
  pub all : (x : ℕ) → IsReachable g x → (u : ℕ) × (u < d.nodes) × (node u ≡ x)
  pub reached : (u : ℕ) → u < d.nodes → IsReachable d u
