-- Which nodes are led to past none that is barred, and the members of a loop by them.
use Rattle.std.specs.Prelude.{◌≡◌, ◌↔◌, ℕ, ◌<◌, ◌⊎◌, Bool, true, false, List, [], length, All, Contains, slice_index_or}
use Rattle.loop_nest.specs.Digraph.{Digraph, AreSources, turned}
use Rattle.loop_nest.specs.Walks.{LeadsAround, IsMember}

-- the flag of a node
abbrev pub flag_at : List Bool → ℕ → Bool
flag_at flags x = slice_index_or flags x false

-- for each node some nodes, and each of them has such
abbrev pub AreWithin : List (List ℕ) → Type 0
AreWithin lists = All (λ us. All (λ u. u < length lists) us) lists

abbrev pub list_at : List (List ℕ) → ℕ → List ℕ
list_at lists v = slice_index_or lists v []

-- From the start the lists lead to the node, each step to one of those in the list of the node before, past no node that is barred.
pub data LeadTo (lists : List (List ℕ)) (barred : List Bool) (start : ℕ) : ℕ → Type 0 where
  first : flag_at barred start ≡ false → LeadTo lists barred start start
  along : {u v : ℕ} → LeadTo lists barred start u → Contains (list_at lists u) v → flag_at barred v ≡ false → LeadTo lists barred start v

-- for each node whether it is one of these
pub record AreLedTo (lists : List (List ℕ)) (barred : List Bool) (start : ℕ) (flags : List Bool) : Type 0 where
  pub long : length flags ≡ length lists
  pub each : (x : ℕ) → (flag_at flags x ≡ true) ↔ LeadTo lists barred start x

-- The search has flagged some nodes that are led to, and has still to look at the nodes of the stack, of which it flags those that aren't barred.
pub record IsSearch (lists : List (List ℕ)) (barred : List Bool) (start : ℕ) (stack : List ℕ) (flags : List Bool) : Type 0 where
  pub long : length flags ≡ length lists
  pub stack_within : All (λ x. x < length lists) stack
  pub found : (x : ℕ) → flag_at flags x ≡ true → LeadTo lists barred start x
  pub waiting : (x : ℕ) → Contains stack x → flag_at barred x ≡ false → LeadTo lists barred start x
  pub entry : flag_at barred start ≡ false → (flag_at flags start ≡ true) ⊎ Contains stack start
  pub closed : (u v : ℕ) → flag_at flags u ≡ true → Contains (list_at lists u) v → flag_at barred v ≡ false → (flag_at flags v ≡ true) ⊎ Contains stack v

-- a graph's edges by source and by target
pub record AreRoutes (g : Digraph) (targets sources : List (List ℕ)) : Type 0 where
  pub targets_are : AreSources (turned g.edges) g.nodes targets
  pub sources_are : AreSources g.edges g.nodes sources

-- for each node whether it can be come to from node 0 without the header
pub record AreAround (g : Digraph) (header : ℕ) (flags : List Bool) : Type 0 where
  pub long : length flags ≡ g.nodes
  pub each : (x : ℕ) → (flag_at flags x ≡ true) ↔ LeadsAround g header 0 x

-- for each node whether the header's loop has it
pub record AreMembers (g : Digraph) (header : ℕ) (flags : List Bool) : Type 0 where
  pub long : length flags ≡ g.nodes
  pub each : (x : ℕ) → (flag_at flags x ≡ true) ↔ IsMember g header x

-- the routes of a graph, and one loop of it
pub record AreLoops (g : Digraph) (targets sources : List (List ℕ)) (header : ℕ) (members : List Bool) : Type 0 where
  pub routes : AreRoutes g targets sources
  pub members_are : AreMembers g header members
