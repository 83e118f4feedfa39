-- The basic blocks of a graph.
use Rattle.std.specs.Prelude.{◌≡◌, ◌≢◌, ℕ, ◌+◌, ◌-◌, ◌<◌, List, [], ◌∷◌, length, map, All, Contains, slice_index}
use Rattle.std.specs.List.Sorted.{IsStrictlyIncreasing}
use Rattle.loop_nest.specs.Digraph.{Digraph, sources_of, targets_of}
use Rattle.loop_nest.specs.Entered.{AreAllReached}

-- v is the one successor of u, and u the one predecessor of v, which is not node 0
pub record IsLink (g : Digraph) (u v : ℕ) : Type 0 where
  pub successor : targets_of g.edges u ≡ v ∷ []
  pub predecessor : sources_of g.edges v ≡ u ∷ []
  pub later : v ≢ 0

-- each node is linked to the next
abbrev pub IsChain : Digraph → List ℕ → Type 0
IsChain g ns = (k : ℕ) → k + 1 < length ns → IsLink g (slice_index ns k) (slice_index ns (k + 1))

-- a chain that no node makes longer, before it or behind it
pub record IsBlock (g : Digraph) (ns : List ℕ) : Type 0 where
  pub some : 0 < length ns
  pub chain : IsChain g ns
  pub first : (u : ℕ) → ¬ IsLink g u (slice_index ns 0)
  pub last : (v : ℕ) → ¬ IsLink g (slice_index ns (length ns - 1)) v

abbrev pub firsts_of : List (List ℕ) → List ℕ
firsts_of bs = map (λ ns. slice_index ns 0) bs

-- a node is linked to u
abbrev pub IsLater : Digraph → ℕ → Type 0
IsLater g u = (w : ℕ) × IsLink g w u

-- blocks, in the order of their first nodes: one for each node to which none is linked. Where every node is reached, each is in one.
pub record AreBlocks (g : Digraph) (bs : List (List ℕ)) : Type 0 where
  pub blocks : All (IsBlock g) bs
  pub rising : IsStrictlyIncreasing (firsts_of bs)
  pub within : All (λ u. u < g.nodes) (firsts_of bs)
  pub complete : (u : ℕ) → u < g.nodes → ¬ IsLater g u → Contains (firsts_of bs) u
  pub each : AreAllReached g → (u : ℕ) → u < g.nodes → (ns : List ℕ) × Contains bs ns × Contains ns u

-- a chain from one node to another, of nodes of g
pub record IsChainFrom (g : Digraph) (first last : ℕ) (ns : List ℕ) : Type 0 where
  pub some : 0 < length ns
  pub begins : slice_index ns 0 ≡ first
  pub ends : slice_index ns (length ns - 1) ≡ last
  pub chain : IsChain g ns
  pub within : All (λ u. u < g.nodes) ns

-- the blocks whose first nodes are below n
pub record AreBlocksBelow (g : Digraph) (n : ℕ) (bs : List (List ℕ)) : Type 0 where
  pub blocks : All (IsBlock g) bs
  pub rising : IsStrictlyIncreasing (firsts_of bs)
  pub below : All (λ u. u < n) (firsts_of bs)
  pub complete : (u : ℕ) → u < n → ¬ IsLater g u → Contains (firsts_of bs) u
