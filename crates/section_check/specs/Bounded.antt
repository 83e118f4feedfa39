-- Walks whose loops are bounded, what they cost, and the greatest of them.
use Rattle.std.specs.Prelude.{◌≡◌, ℕ, ◌+◌, ◌*◌, ◌≤◌, Bool, false, not, ◌&&◌, ◌==◌, if◌then◌else◌, List, [], ◌∷◌, ◌++◌, slice_index, sum_by, All, Contains}
use Rattle.std.specs.List.{list_any}
use Rattle.loop_nest.specs.Digraph.{Digraph, Edge}
use Rattle.loop_nest.specs.Walks.{Walk, back_edges_to}

-- a header with its members, how many iterations each stay in it may take, and what it costs to enter it
pub record BoundedLoop : Type 0 where
  pub header : ℕ
  pub members : List ℕ
  pub bound : ℕ
  pub load : ℕ

abbrev pub holds : List ℕ → ℕ → Bool
holds members u = list_any (λ m. m == u) members

-- how often a walk enters a set of nodes, where it stood in the set before or not
abbrev pub entries_from : Bool → List ℕ → List ℕ → ℕ
entries_from inside members [] = 0
entries_from inside members (u ∷ ns) = (if holds members u && not inside then 1 else 0) + entries_from (holds members u) members ns

-- how often a walk enters a set of nodes; its start enters those that hold it
abbrev pub entries : List ℕ → List ℕ → ℕ
entries members ns = entries_from false members ns

-- what the nodes of a walk cost, each as often as it is visited
abbrev pub cost_of_nodes : List ℕ → List ℕ → ℕ
cost_of_nodes costs ns = sum_by (λ u. slice_index costs u) ns

-- what the walk pays to enter loops
abbrev pub cost_of_entries : List BoundedLoop → List ℕ → ℕ
cost_of_entries loops ns = sum_by (λ l. l.load * entries l.members ns) loops

abbrev pub cost_of : List ℕ → List BoundedLoop → List ℕ → ℕ
cost_of costs loops ns = cost_of_nodes costs ns + cost_of_entries loops ns

-- in each stay among its members, the walk comes to the loop's header again at most so often
abbrev pub IsKept : List ℕ → BoundedLoop → Type 0
IsKept ns l =
    (before in_loop after : List ℕ) → ns ≡ before ++ in_loop ++ after → All (Contains l.members) in_loop → back_edges_to l.header in_loop ≤ l.bound

-- a walk from node 0 to an exit that keeps all bounds
pub record IsBoundedWalk (g : Digraph) (loops : List BoundedLoop) (ns : List ℕ) : Type 0 where
  pub last : ℕ
  pub walk : Walk g 0 last ns
  pub exit : Contains g.exits last
  pub kept : All (IsKept ns) loops

-- no such walk costs more, and one costs as much
pub record IsGreatest (g : Digraph) (costs : List ℕ) (loops : List BoundedLoop) (value : ℕ) : Type 0 where
  pub walk : List ℕ
  pub bounded : IsBoundedWalk g loops walk
  pub attained : cost_of costs loops walk ≡ value
  pub greatest : (ns : List ℕ) → IsBoundedWalk g loops ns → cost_of costs loops ns ≤ value

-- one iteration of a loop: a walk among its members from its header to an edge back, which comes to the header only at its start and keeps all bounds
pub record IsIteration (g : Digraph) (loops : List BoundedLoop) (l : BoundedLoop) (ns : List ℕ) : Type 0 where
  pub last : ℕ
  pub walk : Walk g l.header last ns
  pub within : All (Contains l.members) ns
  pub back : Edge g last l.header
  pub first : back_edges_to l.header ns ≡ 0
  pub kept : All (IsKept ns) loops

-- how often a walk enters a set of nodes after its start
abbrev pub later_entries : List ℕ → List ℕ → ℕ
later_entries members [] = 0
later_entries members (u ∷ ns) = entries_from (holds members u) members ns

-- what an iteration costs: its nodes, and the entries that it makes on its way
abbrev pub cost_of_iteration : List ℕ → List BoundedLoop → List ℕ → ℕ
cost_of_iteration costs loops ns = cost_of_nodes costs ns + sum_by (λ l. l.load * later_entries l.members ns) loops
