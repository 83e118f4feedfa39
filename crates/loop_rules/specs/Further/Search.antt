-- Searches that go back along the edges of a graph from a node, and stop at some nodes.
use Rattle.std.specs.Prelude.{◌≡◌, ◌≢◌, ◌↔◌, ◌⊎◌, ℕ, ◌<◌, ◌≤◌, Bool, true, false, List, [], ◌∷◌, ◌++◌, length, All, Contains, slice_index_or}
use Rattle.loop_nest.specs.Digraph.{Digraph, Edge, sources_of}

-- the flag of a node
abbrev pub flag_at : List Bool → ℕ → Bool
flag_at flags x = slice_index_or flags x false

-- the search comes to the node: it is where it begins, or an edge leads from it to a node to which the search comes and at which it doesn't stop
pub data Comes (g : Digraph) (Stop : ℕ → Type 0) (end : ℕ) : ℕ → Type 0 where
  here : Comes g Stop end end
  along : {u v : ℕ} → Comes g Stop end v → ¬ Stop v → Edge g u v → Comes g Stop end u

-- and stops there
abbrev pub StopsThere : Digraph → (Stop : ℕ → Type 0) → (end : ℕ) → ℕ → Type 0
StopsThere g Stop end x = Comes g Stop end x × Stop x

-- it comes to the first node, and doesn't stop there
abbrev pub IsBegun : Digraph → (Stop : ℕ → Type 0) → (end : ℕ) → Type 0
IsBegun g Stop end = Comes g Stop end 0 × ¬ Stop 0

-- ---- searches that skip

-- Single edges lead back from one node to another, through nodes that are flagged as idle, the other one excepted.
pub data Skips (g : Digraph) (idle : List Bool) : ℕ → ℕ → Type 0 where
  stay : {u : ℕ} → Skips g idle u u
  back : {u w x : ℕ} → flag_at idle u ≡ true → u ≢ 0 → sources_of g.edges u ≡ w ∷ [] → Skips g idle w x → Skips g idle u x

-- to which node it is skipped back from one
abbrev pub back_from : List ℕ → ℕ → ℕ
back_from backs u = slice_index_or backs u 0

-- for each of the first so many nodes one to which it may be skipped back, not above it
pub record AreBacksBelow (g : Digraph) (idle : List Bool) (n : ℕ) (backs : List ℕ) : Type 0 where
  pub long : length backs ≡ n
  pub each : (u : ℕ) → u < n → Skips g idle u (back_from backs u) × (back_from backs u ≤ u)

-- so for each node
abbrev pub AreBacks : (g : Digraph) → (idle : List Bool) → (backs : List ℕ) → Type 0
AreBacks g idle backs = AreBacksBelow g idle g.nodes backs

-- it stops at no node that is flagged as idle
abbrev pub IsPassed : (idle : List Bool) → (Stop : ℕ → Type 0) → Type 0
IsPassed idle Stop = (x : ℕ) → flag_at idle x ≡ true → ¬ Stop x

-- for each of so many nodes one of them
pub record AreWithin (nodes : ℕ) (backs : List ℕ) : Type 0 where
  pub long : length backs ≡ nodes
  pub each : (u : ℕ) → u < nodes → back_from backs u < nodes

-- the search comes to the node: it is where it begins, or it is skipped back to it from a node from which an edge leads to one to which the search comes and at
-- which it doesn't stop
pub data ComesBy (g : Digraph) (backs : List ℕ) (Stop : ℕ → Type 0) (end : ℕ) : ℕ → Type 0 where
  here : ComesBy g backs Stop end end
  along : {u v : ℕ} → ComesBy g backs Stop end v → ¬ Stop v → Edge g u v → ComesBy g backs Stop end (back_from backs u)

-- and stops there
abbrev pub StopsBy : Digraph → (backs : List ℕ) → (Stop : ℕ → Type 0) → (end : ℕ) → ℕ → Type 0
StopsBy g backs Stop end x = ComesBy g backs Stop end x × Stop x

-- it comes to the first node, and doesn't stop there
abbrev pub IsBegunBy : Digraph → (backs : List ℕ) → (Stop : ℕ → Type 0) → (end : ℕ) → Type 0
IsBegunBy g backs Stop end = ComesBy g backs Stop end 0 × ¬ Stop 0

-- just the nodes to which the search comes are flagged, and just those are listed at which it stops
pub record IsSearched (g : Digraph) (backs : List ℕ) (Stop : ℕ → Type 0) (end : ℕ) (flags : List Bool) (stops : List ℕ) : Type 0 where
  pub long : length flags ≡ g.nodes
  pub each : (x : ℕ) → (flag_at flags x ≡ true) ↔ ComesBy g backs Stop end x
  pub stopped : (x : ℕ) → Contains stops x ↔ StopsBy g backs Stop end x
  pub decided : (x : ℕ) → ComesBy g backs Stop end x → Stop x ⊎ ¬ Stop x

-- The search has flagged some nodes to which it comes, has listed those of them at which it stops, and has still to look at the nodes of the stack.
pub record IsSearch (g : Digraph) (backs : List ℕ) (Stop : ℕ → Type 0) (end : ℕ) (stack : List ℕ) (flags : List Bool) (stops : List ℕ) : Type 0 where
  pub long : length flags ≡ g.nodes
  pub stack_within : All (λ x. x < g.nodes) stack
  pub found : (x : ℕ) → flag_at flags x ≡ true → ComesBy g backs Stop end x
  pub waiting : (x : ℕ) → Contains stack x → ComesBy g backs Stop end x
  pub entry : (flag_at flags end ≡ true) ⊎ Contains stack end
  pub closed : (u v : ℕ) → flag_at flags v ≡ true → ¬ Stop v → Edge g u v → (flag_at flags (back_from backs u) ≡ true) ⊎ Contains stack (back_from backs u)
  pub listed : (x : ℕ) → Contains stops x → StopsBy g backs Stop end x
  pub decided : (x : ℕ) → flag_at flags x ≡ true → (Stop x × Contains stops x) ⊎ ¬ Stop x

-- it is listed, if the search stops there; else what leads to it is put on the stack
abbrev pub IsTaken : (Stop : ℕ → Type 0) → (next : List ℕ) → (x : ℕ) → (stops stops' stack stack' : List ℕ) → Type 0
IsTaken Stop next x stops stops' stack stack' =
    (Stop x × (stops' ≡ stops ++ x ∷ []) × (stack' ≡ stack)) ⊎ ((¬ Stop x) × (stops' ≡ stops) × (stack' ≡ stack ++ next))
