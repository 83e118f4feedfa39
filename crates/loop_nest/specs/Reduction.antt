-- The interval reduction of a graph: edges from a node to itself are dropped, and a node that is entered from one node alone is merged into that node.
use Rattle.std.specs.Prelude.{◌≡◌, ◌≢◌, ℕ, Bool, not, ◌&&◌, ◌==◌, if◌then◌else◌, List, [], ◌∷◌, map, filter, Contains}
use Rattle.std.specs.List.{range_with_len}
use Rattle.loop_nest.specs.Digraph.{Digraph}

-- a graph in the course of its reduction: the nodes that are left, and the edges among them
pub record Quotient : Type 0 where
  pub nodes : List ℕ
  pub edges : List (ℕ × ℕ)

-- the reduction begins with the graph itself
abbrev pub whole : Digraph → Quotient
whole g = record { nodes = range_with_len 0 g.nodes; edges = g.edges }

abbrev pub is_self_edge : ℕ → ℕ × ℕ → Bool
is_self_edge p e = (e.0 == p) && (e.1 == p)

-- t is s without the edge from p to itself
pub record DropsSelfEdge (p : ℕ) (s t : Quotient) : Type 0 where
  pub nodes : t.nodes ≡ s.nodes
  pub edges : t.edges ≡ filter (λ e. not (is_self_edge p e)) s.edges

-- x is entered, and from p alone
pub record IsEnteredFrom (s : Quotient) (p x : ℕ) : Type 0 where
  pub edge : Contains s.edges (p, x)
  pub alone : (q : ℕ) → Contains s.edges (q, x) → q ≡ p

-- x is not node 0, and is entered from another node alone, p
pub record CanMerge (s : Quotient) (p x : ℕ) : Type 0 where
  pub not_entry : x ≢ 0
  pub other : x ≢ p
  pub entered : IsEnteredFrom s p x

-- the name of a node when x has been merged into p, which keeps its name
abbrev pub renamed : ℕ → ℕ → ℕ → ℕ
renamed x p a = if a == x then p else a

-- in t, x is merged into p
pub record Merges (x p : ℕ) (s t : Quotient) : Type 0 where
  pub can : CanMerge s p x
  pub nodes : t.nodes ≡ filter (λ a. not (a == x)) s.nodes
  pub edges : t.edges ≡ map (λ e. (renamed x p e.0, renamed x p e.1)) s.edges

-- steps of the reduction, in any order, lead from s to t
pub data Reduces : Quotient → Quotient → Type 0 where
  done : {s : Quotient} → Reduces s s
  drops : {s t u : Quotient} (p : ℕ) → DropsSelfEdge p s t → Reduces t u → Reduces s u
  merges : {s t u : Quotient} (x p : ℕ) → Merges x p s t → Reduces t u → Reduces s u

-- no step is possible
pub record IsReduced (s : Quotient) : Type 0 where
  pub no_self_edge : (p : ℕ) → ¬ Contains s.edges (p, p)
  pub no_merge : (x p : ℕ) → ¬ CanMerge s p x

-- the reduction ends, and leaves node 0 and these nodes, in rising order
pub record Leaves (g : Digraph) (left : List ℕ) : Type 0 where
  pub last : Quotient
  pub steps : Reduces (whole g) last
  pub reduced : IsReduced last
  pub nodes : last.nodes ≡ 0 ∷ left

-- the reduction leaves node 0 alone
abbrev pub IsReducible : Digraph → Type 0
IsReducible g = Leaves g []
