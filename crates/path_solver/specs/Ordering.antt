-- An order of the nodes in which every edge but the back edges leads from a node to a later one.
use Rattle.std.specs.Prelude.{◌≡◌, ◌≢◌, ℕ, ◌+◌, ◌<◌, ◌⊎◌, ◌↔◌, ◌==◌, Bool, true, false, List, [], ◌++◌, length, take, All, Contains, count_by, slice_index}
use Rattle.std.specs.List.Sorted.{IsStrictlyIncreasing}
use Rattle.loop_nest.specs.Digraph.{Digraph}
use Rattle.loop_nest.specs.Nest.{NaturalLoop, headers_of}
use Rattle.section_check.specs.Placing.{IsEntryAt}
use Rattle.path_solver.specs.Reaching.{IsFlagged}

-- headers rise, and so do the members of each loop
pub record AreLoops (loops : List NaturalLoop) : Type 0 where
  pub headers : IsStrictlyIncreasing (headers_of loops)
  pub members : All (λ l. IsStrictlyIncreasing l.members) loops

-- loop i has this header
pub record IsHeadedAt (loops : List NaturalLoop) (u i : ℕ) : Type 0 where
  pub headed : NaturalLoop
  pub at : IsEntryAt loops i headed
  pub header : headed.header ≡ u

-- no loop has this header
abbrev pub NoLoopHas : List NaturalLoop → ℕ → Type 0
NoLoopHas loops u = (k : ℕ) (l : NaturalLoop) → IsEntryAt loops k l → l.header ≢ u

-- v heads a loop that has u
pub record ClosesLoop (loops : List NaturalLoop) (u v : ℕ) : Type 0 where
  pub loop : NaturalLoop
  pub among : Contains loops loop
  pub header : loop.header ≡ v
  pub member : Contains loop.members u

-- v is flagged, and an edge from u to v would close a loop, or not
abbrev pub IsTaken : List NaturalLoop → List Bool → Bool → ℕ → ℕ → Type 0
IsTaken loops flags true u v = IsFlagged flags v × ClosesLoop loops u v
IsTaken loops flags false u v = IsFlagged flags v × (¬ ClosesLoop loops u v)

-- of these edges exactly those that close a loop, or don't, to flagged nodes
abbrev pub AreTaken : List (ℕ × ℕ) → List NaturalLoop → List Bool → Bool → List (ℕ × ℕ) → Type 0
AreTaken es loops flags back found = (u v : ℕ) → Contains found (u, v) ↔ (Contains es (u, v) × IsTaken loops flags back u v)

-- no number stands twice
abbrev pub AreApart : List ℕ → Type 0
AreApart us = (i j : ℕ) → i < j → j < length us → slice_index us i ≢ slice_index us j

-- each of the flagged nodes below n for which no edge is waited for, once
pub record AreStarts (flags : List Bool) (waiting : List ℕ) (n : ℕ) (us : List ℕ) : Type 0 where
  pub each : (u : ℕ) → Contains us u ↔ ((u < n) × IsFlagged flags u × (slice_index waiting u ≡ 0))
  pub apart : AreApart us

-- an edge to each of the targets was counted off, and the nodes for which none is waited for any more were added
pub record AreCountedDown (targets waiting waiting' order order' : List ℕ) : Type 0 where
  pub long : length waiting' ≡ length waiting
  pub counts : (v : ℕ) → slice_index waiting' v + count_by (λ x. x == v) targets ≡ slice_index waiting v
  pub added : (released : List ℕ) × (order' ≡ order ++ released)
  pub each : (v : ℕ) → Contains order' v ↔ (Contains order v ⊎ (Contains targets v × (slice_index waiting' v ≡ 0)))
  pub apart : AreApart order'

-- the graph of these edges, as far as walks go
abbrev pub graph_of : ℕ → List (ℕ × ℕ) → Digraph
graph_of n es = record { nodes = n; edges = es; exits = [] }

-- the flagged nodes, each once, and each behind those from which an edge leads to it
pub record IsForwardOrder (flags : List Bool) (es : List (ℕ × ℕ)) (order : List ℕ) : Type 0 where
  pub each : (u : ℕ) → Contains order u ↔ IsFlagged flags u
  pub apart : AreApart order
  pub before : (p j : ℕ) → j < length order → Contains es (p, slice_index order j) → Contains (take j order) p
