-- Nodes merged in passes: each node has a pointer to one into which it was merged at some time, and the last of these is its name.
use Rattle.std.specs.Prelude.{◌≡◌, ◌≢◌, ℕ, ◌+◌, ◌<◌, ◌≤◌, ◌↔◌, Bool, true, false, List, [], length, map, All, Contains, slice_index_or}
use Rattle.loop_nest.specs.Digraph.{Digraph}
use Rattle.loop_nest.specs.Classes.{CanMergeClass, AreMerged}
use Rattle.loop_nest.specs.Entered.{class_of, names, edge_at, AreMarkedBy, IsEnteredFromOne}

-- a pointer stays among the nodes that are merged, and ends at the node that gives them its name
pub record AreFollowed (c : ℕ → ℕ) (into : List ℕ) : Type 0 where
  pub same : (u : ℕ) → u < length into → c (class_of into u) ≡ c u
  pub named : (u : ℕ) → u < length into → class_of into u ≡ u → c u ≡ u

-- pointers lead upwards, and to no greater height than there are nodes that are merged into others
pub record DoEnd (into : List ℕ) : Type 0 where
  pub height : ℕ → ℕ
  pub rising : (u : ℕ) → u < length into → class_of into u ≢ u → height u < height (class_of into u)
  pub low : (u : ℕ) → u < length into → height u + length (names into) ≤ length into

-- pointers of what merges give, and marks of the back edges
pub record ArePointers (g : Digraph) (into : List ℕ) (back : List Bool) : Type 0 where
  pub class : ℕ → ℕ
  pub merged : AreMerged g class
  pub followed : AreFollowed class into
  pub beyond : (u : ℕ) → length into ≤ u → class u ≡ u
  pub long : length into ≡ g.nodes
  pub within : All (λ a. a < g.nodes) into
  pub marked : AreMarkedBy g class back
  pub ends : DoEnd into

-- whatever merges the pointers stand for, u is merged into this node
abbrev pub IsNameOf : List ℕ → ℕ → ℕ → Type 0
IsNameOf into u name = (c : ℕ → ℕ) → AreFollowed c into → c u ≡ name

-- exactly the numbers of the edges, with their targets
abbrev pub AreNumbered : List (ℕ × ℕ) → List (ℕ × ℕ) → Type 0
AreNumbered es numbered = (i v : ℕ) → Contains numbered (i, v) ↔ ((i < length es) × ((edge_at es i).1 ≡ v))

-- the numbered edges to x enter it from p alone, and are marked where they begin among the nodes merged into x
pub record IsScanned (es : List (ℕ × ℕ)) (c : ℕ → ℕ) (numbers : List ℕ) (p x : ℕ) (back : List Bool) : Type 0 where
  pub entered : IsEnteredFromOne (map (edge_at es) numbers) c p x
  pub marked : (i : ℕ) → Contains numbers i → (slice_index_or back i false ≡ true) ↔ (c (edge_at es i).0 ≡ x)

-- only marks of edges to x change
pub record KeepsMarks (es : List (ℕ × ℕ)) (x : ℕ) (old new : List Bool) : Type 0 where
  pub long : length new ≡ length old
  pub others : (i : ℕ) → (edge_at es i).1 ≢ x → slice_index_or new i false ≡ slice_index_or old i false

-- the list has the name of each node
pub record AreNames (into class : List ℕ) : Type 0 where
  pub long : length class ≡ length into
  pub within : All (λ a. a < length into) class
  pub each : (u : ℕ) → u < length into → IsNameOf into u (slice_index_or class u u)
  pub left : (u : ℕ) → u < length into → class_of into (slice_index_or class u u) ≡ slice_index_or class u u

-- for each node the numbers of the edges to it
pub record AreIncoming (g : Digraph) (numbers : List (List ℕ)) : Type 0 where
  pub long : length numbers ≡ g.nodes
  pub each : (x i : ℕ) → x < g.nodes → Contains (slice_index_or numbers x []) i ↔ ((i < length g.edges) × ((edge_at g.edges i).1 ≡ x))

-- x, if it is left, can't be merged into another node
abbrev pub CannotMerge : Digraph → List ℕ → ℕ → Type 0
CannotMerge g into x = class_of into x ≡ x → (c : ℕ → ℕ) → AreMerged g c → AreFollowed c into → (p : ℕ) → ¬ CanMergeClass g c p x

-- for each of n nodes whether it is among these
pub record AreFlags (us : List ℕ) (n : ℕ) (flags : List Bool) : Type 0 where
  pub long : length flags ≡ n
  pub each : (u : ℕ) → (slice_index_or flags u false ≡ true) ↔ Contains us u

-- nodes below n, and each of these is among them
pub record AreAllNodes (n : ℕ) (us : List ℕ) : Type 0 where
  pub within : All (λ u. u < n) us
  pub each : (u : ℕ) → u < n → Contains us u
