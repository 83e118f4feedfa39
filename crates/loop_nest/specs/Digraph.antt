-- Graphs of numbered nodes, of which node 0 is the entry.
use Rattle.std.specs.Prelude.{◌≡◌, ℕ, ◌<◌, ◌⊎◌, ◌==◌, List, [], length, map, filter, All, Contains, count_by, slice_index, slice_index_or}
use Rattle.std.specs.List.{AllAdjacentBelow}
use Rattle.std.specs.List.Sorted.{IsStrictlyIncreasing}

-- the nodes from 0 on, so many, the edges from node to node, and the nodes at which a walk may end
pub record Digraph : Type 0 where
  pub nodes : ℕ
  pub edges : List (ℕ × ℕ)
  pub exits : List ℕ

-- an edge goes from u to v
abbrev pub Edge : Digraph → ℕ → ℕ → Type 0
Edge g u v = Contains g.edges (u, v)

-- edges stand in the order of their sources and, at one source, of their targets
abbrev pub IsBefore : ℕ × ℕ → ℕ × ℕ → Type 0
IsBefore a b = (a.0 < b.0) ⊎ ((a.0 ≡ b.0) × (a.1 < b.1))

-- edges among so many nodes, each once, rising
pub record AreEdges (nodes : ℕ) (es : List (ℕ × ℕ)) : Type 0 where
  pub ends : All (λ e. (e.0 < nodes) × (e.1 < nodes)) es
  pub rising : AllAdjacentBelow IsBefore es (length es)

-- some of so many nodes, each once, rising
pub record AreExits (nodes : ℕ) (us : List ℕ) : Type 0 where
  pub within : All (λ u. u < nodes) us
  pub rising : IsStrictlyIncreasing us

-- there is an entry, and edges and exits are sets of nodes, in rising order
pub record IsDigraph (g : Digraph) : Type 0 where
  pub entry : 0 < g.nodes
  pub edges : AreEdges g.nodes g.edges
  pub exits : AreExits g.nodes g.exits

-- the sources of the edges to v
abbrev pub sources_of : List (ℕ × ℕ) → ℕ → List ℕ
sources_of es v = map (λ e. e.0) (filter (λ e. e.1 == v) es)

-- the targets of the edges from u
abbrev pub targets_of : List (ℕ × ℕ) → ℕ → List ℕ
targets_of es u = map (λ e. e.1) (filter (λ e. e.0 == u) es)

-- these edges from their targets to their sources
abbrev pub turned : List (ℕ × ℕ) → List (ℕ × ℕ)
turned es = map (λ e. (e.1, e.0)) es

-- for each of n nodes, the sources of the edges to it
pub record AreSources (es : List (ℕ × ℕ)) (n : ℕ) (ss : List (List ℕ)) : Type 0 where
  pub long : length ss ≡ n
  pub each : (v : ℕ) → v < n → slice_index_or ss v [] ≡ sources_of es v

-- for each of n nodes, how many edges lead to it
pub record AreArrivals (es : List (ℕ × ℕ)) (n : ℕ) (counts : List ℕ) : Type 0 where
  pub long : length counts ≡ n
  pub each : (v : ℕ) → slice_index counts v ≡ count_by (λ e. e.1 == v) es
