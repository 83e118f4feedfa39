-- Walks in a graph, dominance, and loops: those of the textbooks, by back edges to a header that dominates their sources.
use Rattle.std.specs.Prelude.{◌≡◌, ℕ, ◌≤◌, ◌⊎◌, ◌==◌, List, [], ◌∷◌, ◌++◌, drop, All, Contains, count_by}
use Rattle.loop_nest.specs.Digraph.{Digraph, Edge}

-- a walk along edges from a node to a node, and the nodes that it visits, both ends included
pub data Walk (g : Digraph) : ℕ → ℕ → List ℕ → Type 0 where
  stay : {u : ℕ} → Walk g u u (u ∷ [])
  along : {u v w : ℕ} {ns : List ℕ} → Edge g u v → Walk g v w ns → Walk g u w (u ∷ ns)

-- every walk from node 0 to u visits h
abbrev pub Dominates : Digraph → ℕ → ℕ → Type 0
Dominates g h u = (ns : List ℕ) → Walk g 0 u ns → Contains ns h

-- some walk leads from u to v and doesn't visit h
abbrev pub LeadsAround : Digraph → ℕ → ℕ → ℕ → Type 0
LeadsAround g h u v = (ns : List ℕ) × Walk g u v ns × (¬ Contains ns h)

-- some walk leads from node 0 to u
abbrev pub IsReachable : Digraph → ℕ → Type 0
IsReachable g u = (ns : List ℕ) × Walk g 0 u ns

-- an edge from u to h whose target dominates its source
pub record IsBackEdge (g : Digraph) (u h : ℕ) : Type 0 where
  pub edge : Edge g u h
  pub dominates : Dominates g h u

-- a back edge goes to h
abbrev pub IsHeader : Digraph → ℕ → Type 0
IsHeader g h = (u : ℕ) × IsBackEdge g u h

-- the source of a back edge of h is reached from x without visiting h
pub record ReachesBackEdge (g : Digraph) (h x : ℕ) : Type 0 where
  pub source : ℕ
  pub back_edge : IsBackEdge g source h
  pub leads : LeadsAround g h x source

-- x is a member of the loop of h: it is the header, or the source of a back edge is reached from it without visiting the header
abbrev pub IsMember : Digraph → ℕ → ℕ → Type 0
IsMember g h x = IsHeader g h × ((x ≡ h) ⊎ ReachesBackEdge g h x)

-- the loop of h is entered by the edge from u to v
pub record IsEntering (g : Digraph) (h u v : ℕ) : Type 0 where
  pub edge : Edge g u v
  pub outside : ¬ IsMember g h u
  pub inside : IsMember g h v

-- how many edges to h a walk takes. Within the loop of h these are its back edges.
abbrev pub back_edges_to : ℕ → List ℕ → ℕ
back_edges_to h ns = count_by (λ x. x == h) (drop 1 ns)

-- the walk takes at most so many back edges of h in each stay in its loop, between an entry and the next leaving
abbrev pub KeepsBound : Digraph → ℕ → ℕ → List ℕ → Type 0
KeepsBound g h bound ns =
    (before in_loop after : List ℕ) → ns ≡ before ++ in_loop ++ after → All (IsMember g h) in_loop → back_edges_to h in_loop ≤ bound

-- the walk takes the edge from u to v
abbrev pub TakesEdge : List ℕ → ℕ → ℕ → Type 0
TakesEdge ns u v = (before after : List ℕ) × (ns ≡ before ++ u ∷ v ∷ after)
