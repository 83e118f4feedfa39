-- The members of a loop, as a search backwards from the sources of its back edges finds them.
use Rattle.std.specs.Prelude.{◌≡◌, ◌≢◌, ℕ, ◌<◌, ◌⊎◌, ◌↔◌, List, length, All, Contains, slice_index_or, Option, Some, None}
use Rattle.loop_nest.specs.Digraph.{Digraph, Edge}
use Rattle.loop_nest.specs.Walks.{LeadsAround}

-- one of the nodes `ends` is reached from x without visiting h
pub record ReachesOneOf (g : Digraph) (h : ℕ) (ends : List ℕ) (x : ℕ) : Type 0 where
  pub source : ℕ
  pub listed : Contains ends source
  pub leads : LeadsAround g h x source

-- the number with which node x is marked
abbrev pub mark_at : List (Option ℕ) → ℕ → Option ℕ
mark_at marks x = slice_index_or marks x None

-- the search for the loop of this number marked its members so far, and has still to look at the nodes of the stack
pub record IsSearch (g : Digraph) (h : ℕ) (ends : List ℕ) (number : ℕ) (stack : List ℕ) (marks : List (Option ℕ)) : Type 0 where
  pub long : length marks ≡ g.nodes
  pub stack_within : All (λ x. x < g.nodes) stack
  pub found : (x : ℕ) → mark_at marks x ≡ Some number → (x ≡ h) ⊎ ReachesOneOf g h ends x
  pub waiting : (x : ℕ) → Contains stack x → (x ≡ h) ⊎ ReachesOneOf g h ends x
  pub from_header : mark_at marks h ≡ Some number
  pub from_ends : (x : ℕ) → Contains ends x → (mark_at marks x ≡ Some number) ⊎ Contains stack x
  pub closed : (u x : ℕ) → mark_at marks x ≡ Some number → x ≢ h → Edge g u x → (mark_at marks u ≡ Some number) ⊎ Contains stack u

-- exactly the header and the nodes from which one of the ends is reached without visiting the header are marked with the number
abbrev pub AreFound : Digraph → ℕ → List ℕ → ℕ → List (Option ℕ) → Type 0
AreFound g h ends number marks = (x : ℕ) → (mark_at marks x ≡ Some number) ↔ ((x ≡ h) ⊎ ReachesOneOf g h ends x)

-- no node is marked with the number
abbrev pub AreUnmarked : ℕ → List (Option ℕ) → Type 0
AreUnmarked number marks = (x : ℕ) → mark_at marks x ≢ Some number

-- each node is marked with the number, or as before
pub record IsMarkedWith (number : ℕ) (old new : List (Option ℕ)) : Type 0 where
  pub long : length new ≡ length old
  pub each : (x : ℕ) → (mark_at new x ≡ Some number) ⊎ (mark_at new x ≡ mark_at old x)
