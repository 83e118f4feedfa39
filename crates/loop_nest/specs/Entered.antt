-- From where merged nodes are entered, as far as the edges of a list tell.
use Rattle.std.specs.Prelude.{◌≡◌, ◌≢◌, ℕ, ◌<◌, ◌⊎◌, ◌↔◌, Bool, true, false, ◌==◌, if◌then◌else◌, List, length, filter, All, Contains, slice_index_or}
use Rattle.std.specs.List.{range_with_len}
use Rattle.loop_nest.specs.declared.merging.Entered.{Entered}
use Rattle.loop_nest.specs.declared.merging.Entered.TheVariants.{Nowhere, From, FromSeveral}
use Rattle.loop_nest.specs.Digraph.{Digraph}
use Rattle.loop_nest.specs.Walks.{IsReachable, IsBackEdge}
use Rattle.loop_nest.specs.Classes.{AreMerged}

-- the node into which a node is merged, by a list that has one for each node
abbrev pub class_of : List ℕ → ℕ → ℕ
class_of class u = slice_index_or class u u

-- the nodes that are merged into no other
abbrev pub names : List ℕ → List ℕ
names class = filter (λ a. class_of class a == a) (range_with_len 0 (length class))

-- the same with an edge more, from the class `source`
abbrev pub entered_and_from : Entered → ℕ → Entered
entered_and_from Nowhere source = From source
entered_and_from (From p) source = if p == source then From p else FromSeveral
entered_and_from FromSeveral source = FromSeveral

-- the edges that enter the class x all begin in it
abbrev pub IsNotEntered : List (ℕ × ℕ) → (ℕ → ℕ) → ℕ → Type 0
IsNotEntered es c x = (u v : ℕ) → Contains es (u, v) → c v ≡ x → c u ≡ x

-- the edges that enter the class x from elsewhere begin in the class p, and there is one
pub record IsEnteredFromOne (es : List (ℕ × ℕ)) (c : ℕ → ℕ) (p x : ℕ) : Type 0 where
  pub other : x ≢ p
  pub source : ℕ
  pub target : ℕ
  pub edge : Contains es (source, target)
  pub leaves : c source ≡ p
  pub enters : c target ≡ x
  pub alone : (u v : ℕ) → Contains es (u, v) → c v ≡ x → (c u ≡ x) ⊎ (c u ≡ p)

-- two edges enter the class x from two other classes
pub record IsEnteredFromTwo (es : List (ℕ × ℕ)) (c : ℕ → ℕ) (x : ℕ) : Type 0 where
  pub source : ℕ
  pub target : ℕ
  pub edge : Contains es (source, target)
  pub outside : c source ≢ x
  pub enters : c target ≡ x
  pub other_source : ℕ
  pub other_target : ℕ
  pub other_edge : Contains es (other_source, other_target)
  pub other_outside : c other_source ≢ x
  pub other_enters : c other_target ≡ x
  pub differ : c source ≢ c other_source

abbrev pub IsEnteredAs : List (ℕ × ℕ) → (ℕ → ℕ) → ℕ → Entered → Type 0
IsEnteredAs es c x Nowhere = IsNotEntered es c x
IsEnteredAs es c x (From p) = IsEnteredFromOne es c p x
IsEnteredAs es c x FromSeveral = IsEnteredFromTwo es c x

-- the list has the node into which each node of the graph is merged
pub record IsClassList (g : Digraph) (class : List ℕ) : Type 0 where
  pub long : length class ≡ g.nodes
  pub within : All (λ a. a < g.nodes) class
  pub merged : AreMerged g (class_of class)

-- every node is reached
abbrev pub AreAllReached : Digraph → Type 0
AreAllReached g = (u : ℕ) → u < g.nodes → IsReachable g u

-- edge i of a list
abbrev pub edge_at : List (ℕ × ℕ) → ℕ → ℕ × ℕ
edge_at es i = slice_index_or es i (0, 0)

-- for each edge, whether it is a back edge, where its target is merged into another node
pub record AreMarkedBy (g : Digraph) (c : ℕ → ℕ) (back : List Bool) : Type 0 where
  pub long : length back ≡ length g.edges
  pub each : AreAllReached g → (i : ℕ) → i < length g.edges → c (edge_at g.edges i).1 ≢ (edge_at g.edges i).1
      → (slice_index_or back i false ≡ true) ↔ IsBackEdge g (edge_at g.edges i).0 (edge_at g.edges i).1

abbrev pub AreBackEdgesMarked : Digraph → List ℕ → List Bool → Type 0
AreBackEdgesMarked g class back = AreMarkedBy g (class_of class) back

-- the edges to x are marked as back edges where they begin among the nodes merged into x
pub record MarksEdgesTo (es : List (ℕ × ℕ)) (c : ℕ → ℕ) (x : ℕ) (old new : List Bool) : Type 0 where
  pub long : length new ≡ length old
  pub to_x : (i : ℕ) → i < length es → (edge_at es i).1 ≡ x → (slice_index_or new i false ≡ true) ↔ (c (edge_at es i).0 ≡ x)
  pub others : (i : ℕ) → (edge_at es i).1 ≢ x → slice_index_or new i false ≡ slice_index_or old i false

-- for each edge, whether it is a back edge, where it doesn't go to node 0
pub record AreBackEdgesTold (g : Digraph) (back : List Bool) : Type 0 where
  pub long : length back ≡ length g.edges
  pub each : (i : ℕ) → i < length g.edges → (edge_at g.edges i).1 ≢ 0
      → (slice_index_or back i false ≡ true) ↔ IsBackEdge g (edge_at g.edges i).0 (edge_at g.edges i).1

-- exactly the back edges
abbrev pub AreBackEdges : Digraph → List (ℕ × ℕ) → Type 0
AreBackEdges g es = (u v : ℕ) → Contains es (u, v) ↔ IsBackEdge g u v
