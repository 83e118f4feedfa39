-- Nodes that are reached through some nodes alone.
use Rattle.std.specs.Prelude.{◌≡◌, ◌↔◌, ℕ, ◌<◌, ◌⊎◌, Bool, true, false, List, length, All, Contains, slice_index_or}
use Rattle.loop_nest.specs.Digraph.{Digraph, Edge}

-- the flag of a node
abbrev pub flag_at : List Bool → ℕ → Bool
flag_at flags x = slice_index_or flags x false

-- a walk from the start through nodes that are allowed leads to the node, both ends among them
pub data Reaches (g : Digraph) (allowed : List Bool) (start : ℕ) : ℕ → Type 0 where
  first : flag_at allowed start ≡ true → Reaches g allowed start start
  along : {u v : ℕ} → Reaches g allowed start u → Edge g u v → flag_at allowed v ≡ true → Reaches g allowed start v

-- for each node whether it is one of these
abbrev pub AreReached : Digraph → (allowed : List Bool) → (start : ℕ) → List Bool → Type 0
AreReached g allowed start flags = (x : ℕ) → (flag_at flags x ≡ true) ↔ Reaches g allowed start x

-- The search has flagged some nodes that are reached, and has still to look at the nodes of the stack, of which it flags those that are allowed.
pub record IsSearch (g : Digraph) (allowed : List Bool) (start : ℕ) (stack : List ℕ) (flags : List Bool) : Type 0 where
  pub long : length flags ≡ length allowed
  pub stack_within : All (λ x. x < g.nodes) stack
  pub found : (x : ℕ) → flag_at flags x ≡ true → Reaches g allowed start x
  pub waiting : (x : ℕ) → Contains stack x → flag_at allowed x ≡ true → Reaches g allowed start x
  pub entry : flag_at allowed start ≡ true → (flag_at flags start ≡ true) ⊎ Contains stack start
  pub closed : (u v : ℕ) → flag_at flags u ≡ true → Edge g u v → flag_at allowed v ≡ true → (flag_at flags v ≡ true) ⊎ Contains stack v
