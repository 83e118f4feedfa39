-- From which nodes an exit is reached.
use Rattle.std.specs.Prelude.{◌≡◌, ℕ, ◌<◌, ◌⊎◌, ◌↔◌, Bool, true, false, List, length, All, Contains, slice_index_or}
use Rattle.loop_nest.specs.Digraph.{Digraph, Edge}
use Rattle.loop_nest.specs.Walks.{Walk}

-- some walk leads from u to an exit
pub record ReachesExit (g : Digraph) (u : ℕ) : Type 0 where
  pub exit : ℕ
  pub among : Contains g.exits exit
  pub nodes : List ℕ
  pub walk : Walk g u exit nodes

-- node u is flagged
abbrev pub IsFlagged : List Bool → ℕ → Type 0
IsFlagged flags u = slice_index_or flags u false ≡ true

-- exactly the nodes from which an exit is reached are flagged
pub record AreReaching (g : Digraph) (flags : List Bool) : Type 0 where
  pub long : length flags ≡ g.nodes
  pub each : (u : ℕ) → IsFlagged flags u ↔ ReachesExit g u

-- the search backwards from the exits flagged nodes so far, and has still to look at the nodes of the stack
pub record IsBackwardSearch (g : Digraph) (stack : List ℕ) (flags : List Bool) : Type 0 where
  pub long : length flags ≡ g.nodes
  pub stack_within : All (λ u. u < g.nodes) stack
  pub found : (u : ℕ) → IsFlagged flags u → ReachesExit g u
  pub waiting : (u : ℕ) → Contains stack u → ReachesExit g u
  pub from_exits : (u : ℕ) → Contains g.exits u → IsFlagged flags u ⊎ Contains stack u
  pub closed : (u v : ℕ) → IsFlagged flags v → Edge g u v → IsFlagged flags u ⊎ Contains stack u
