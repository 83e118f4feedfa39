-- The members of a loop, and those of them that lie in an inner loop, as flags by node.
use Rattle.std.specs.Prelude.{◌≡◌, ◌≢◌, ◌↔◌, ℕ, ◌<◌, true, false, Bool, List, length, map, Some, All, Contains}
use Rattle.loop_nest.specs.Digraph.{Digraph, IsDigraph, AreSources}
use Rattle.loop_nest.specs.Walks.{IsHeader, IsMember}
use Rattle.loop_nest.specs.Nest.{NaturalLoop, header_at, members_at, outer_at}
use Rattle.flow_graph.specs.Reach.{AreSpans}
use Rattle.loop_rules.specs.Iterations.{IsOnEachIteration, ReachesWithout}
use Rattle.loop_marks.specs.Reach.{flag_at}

-- a graph, for each node the span of the edges from it, and the sources of the edges to it
pub record AreRoutes (g : Digraph) (xs : List (ℕ × ℕ)) (ss : List (List ℕ)) : Type 0 where
  pub valid : IsDigraph g
  pub long : length xs ≡ g.nodes
  pub spans : AreSpans g.edges xs
  pub sources : AreSources g.edges g.nodes ss

-- a header, the members, and flags
pub record Marks : Type 0 where
  pub header : ℕ
  pub nodes : List ℕ
  pub members : List Bool
  pub inner : List Bool

-- another loop within the loop has the node
pub record IsInner (g : Digraph) (h x : ℕ) : Type 0 where
  pub other : ℕ
  pub header : IsHeader g other
  pub member : IsMember g other x
  pub within : IsMember g h other
  pub differs : other ≢ h

-- header and nodes are nodes of the graph
pub record AreSized (g : Digraph) (k : Marks) : Type 0 where
  pub header : k.header < g.nodes
  pub nodes : All (λ x. x < g.nodes) k.nodes

-- the members of the loop are flagged
abbrev pub AreMembersFlagged : Digraph → (header : ℕ) → List Bool → Type 0
AreMembersFlagged g h flags = (x : ℕ) → (flag_at flags x ≡ true) ↔ IsMember g h x

-- and its nodes that an inner loop has
abbrev pub AreInnerFlagged : Digraph → (header : ℕ) → List Bool → Type 0
AreInnerFlagged g h flags = (x : ℕ) → (flag_at flags x ≡ true) ↔ IsInner g h x

-- they are the loop's
pub record AreMarksOf (g : Digraph) (k : Marks) : Type 0 where
  pub header : IsHeader g k.header
  pub nodes : (x : ℕ) → Contains k.nodes x ↔ IsMember g k.header x
  pub members : AreMembersFlagged g k.header k.members
  pub inner : AreInnerFlagged g k.header k.inner

-- one of the first n loops is directly within loop i and has the node that has another number
pub record IsHeldDirectly (node : ℕ → ℕ) (ls : List NaturalLoop) (i n x : ℕ) : Type 0 where
  pub index : ℕ
  pub below : index < n
  pub outer : outer_at ls index ≡ Some i
  pub inside : Contains (map node (members_at ls index)) x

-- of the nodes that are flagged as members those are flagged that one of these loops has
pub record AreHeldDirectly (node : ℕ → ℕ) (ls : List NaturalLoop) (i n : ℕ) (members flags : List Bool) : Type 0 where
  pub long : length flags ≡ length members
  pub each : (x : ℕ) → (flag_at flags x ≡ true) ↔ ((flag_at members x ≡ true) × IsHeldDirectly node ls i n x)

-- they are those of loop i, whose header has another number in g
pub record AreMarksOfLoop (g : Digraph) (node : ℕ → ℕ) (ls : List NaturalLoop) (i : ℕ) (k : Marks) : Type 0 where
  pub header : k.header ≡ node (header_at ls i)
  pub marks : AreMarksOf g k

-- the nodes to which a walk among the members leads from the header without x are flagged
abbrev pub IsWithout : Digraph → (header x : ℕ) → List Bool → Type 0
IsWithout g h x flags = (u : ℕ) → (flag_at flags u ≡ true) ↔ ReachesWithout g h x u

-- a node that isn't flagged is not on each iteration
abbrev pub IsRest : Digraph → (h : ℕ) → List Bool → Type 0
IsRest g h flags = (x : ℕ) → flag_at flags x ≡ false → ¬ IsOnEachIteration g h x
