-- The nodes that edges reach from node 0.
use Rattle.std.specs.Prelude.{◌≡◌, ◌↔◌, ℕ, ◌+◌, ◌<◌, ◌≤◌, ◌⊎◌, ◌==◌, Bool, true, false, List, ◌++◌, length, All, Contains, if◌then◌else◌, slice_index_or}
use Rattle.loop_nest.specs.Entered.{edge_at}

pub data Reaches (es : List (ℕ × ℕ)) : ℕ → Type 0 where
  entry : Reaches es 0
  along : {u v : ℕ} → Reaches es u → Contains es (u, v) → Reaches es v

-- the edges are between so many nodes
abbrev pub AreWithin : (nodes : ℕ) → List (ℕ × ℕ) → Type 0
AreWithin n es = All (λ e. (e.0 < n) × (e.1 < n)) es

-- the flag of a node
abbrev pub flag_at : List Bool → ℕ → Bool
flag_at flags x = slice_index_or flags x false

-- the flags of so many nodes tell which ones are reached
pub record AreReached (es : List (ℕ × ℕ)) (n : ℕ) (flags : List Bool) : Type 0 where
  pub long : length flags ≡ n
  pub each : (x : ℕ) → (flag_at flags x ≡ true) ↔ Reaches es x

-- The search has flagged some nodes that are reached, and has still to look at the nodes of the stack.
pub record IsSearch (es : List (ℕ × ℕ)) (n : ℕ) (stack : List ℕ) (flags : List Bool) : Type 0 where
  pub long : length flags ≡ n
  pub stack_within : All (λ x. x < n) stack
  pub found : (x : ℕ) → flag_at flags x ≡ true → Reaches es x
  pub waiting : (x : ℕ) → Contains stack x → Reaches es x
  pub entry : (flag_at flags 0 ≡ true) ⊎ Contains stack 0
  pub closed : (u v : ℕ) → flag_at flags u ≡ true → Contains es (u, v) → (flag_at flags v ≡ true) ⊎ Contains stack v

-- ---- where the edges from a node stand

-- the span that has a place more, where an empty one ends at 0
abbrev pub span_with : ℕ × ℕ → (place : ℕ) → ℕ × ℕ
span_with span k = (if span.1 == 0 then k else span.0, k + 1)

-- spans of nodes, each from a place up to another, so that each of the first so many edges stands in the span of its source
pub record AreSpansBelow (es : List (ℕ × ℕ)) (n : ℕ) (spans : List (ℕ × ℕ)) : Type 0 where
  pub ordered : All (λ s. s.0 ≤ s.1) spans
  pub within : All (λ s. s.1 ≤ n) spans
  pub each : (k : ℕ) → k < n → ((edge_at spans (edge_at es k).0).0 ≤ k) × (k < (edge_at spans (edge_at es k).0).1)

abbrev pub AreSpans : List (ℕ × ℕ) → List (ℕ × ℕ) → Type 0
AreSpans es spans = AreSpansBelow es (length es) spans

-- the targets of the edges from a node were put behind the old list, at most one for each edge
pub record ArePushed (es : List (ℕ × ℕ)) (u : ℕ) (old new : List ℕ) : Type 0 where
  pub next : List ℕ
  pub is : new ≡ old ++ next
  pub few : length next ≤ length es
  pub each : (v : ℕ) → Contains next v ↔ Contains es (u, v)
