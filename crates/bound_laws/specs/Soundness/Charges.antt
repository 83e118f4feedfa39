-- What nodes and edges of a method are charged, where some sets of its nodes are regions.
use Rattle.std.specs.Prelude.{◌≡◌, ℕ, ◌+◌, ◌≤◌, Bool, List, [], ◌∷◌, length, sum_by, Contains, Option, Some, None}
use Rattle.method_cache.specs.Contents.{Cache}
use Rattle.method_cache.specs.Regions.Region.{load_stall}
use Rattle.method_cache.specs.Regions.LookUps.{blocks_taken, stall_of_loads}

-- A method and its charges. A node is charged what its step takes, and an edge what control pays to come to a region by it. Each node is in one
-- region at most; a region has the methods that may run while control is at its nodes, and a fee. Some nodes are raise steps.
pub record Charges : Type 0 where
  -- the words of each method, the wait cycles of a read, the sizes of the cache, and the method itself
  pub words : ℕ → List ℕ
  pub wait : ℕ
  pub blocks : ℕ
  pub block_words : ℕ
  pub own : ℕ
  pub node : ℕ → ℕ
  pub edge : ℕ → ℕ → ℕ
  pub is_raise : ℕ → Bool
  pub region_of : ℕ → Option ℕ
  pub methods : ℕ → List ℕ
  pub fee : ℕ → ℕ

-- the cycles that look-ups stall
abbrev pub stall : Charges → List ℕ → Cache → ℕ
stall k ls c = stall_of_loads k.words k.wait ls c

-- the cycles that the load of a method stalls
abbrev pub load_of : Charges → ℕ → ℕ
load_of k x = load_stall k.wait (length (k.words x))

-- A region has the method itself, its methods fit the cache together, and its fee covers the loads of them all. An edge to it from outside pays the fee.
pub record AreCharged (k : Charges) : Type 0 where
  pub own_within : (l u : ℕ) → k.region_of u ≡ Some l → Contains (k.methods l) k.own
  pub fits : (l u : ℕ) → k.region_of u ≡ Some l → blocks_taken k.words k.block_words (k.methods l) ≤ k.blocks
  pub covers : (l u : ℕ) → k.region_of u ≡ Some l → sum_by (load_of k) (k.methods l) ≤ k.fee l
  pub enters : (l u v : ℕ) → k.region_of v ≡ Some l → ¬ (k.region_of u ≡ Some l) → k.fee l ≤ k.edge u v

-- the cache has these sizes
pub record HasSizes (k : Charges) (c : Cache) : Type 0 where
  pub blocks : c.blocks ≡ k.blocks
  pub block_words : c.block_words ≡ k.block_words

-- what the start is charged: the fee of the region in which it lies
abbrev pub start_fee : Charges → Option ℕ → ℕ
start_fee k None = 0
start_fee k (Some l) = k.fee l

-- what going on from a node over these further ones is charged: the nodes, and the edges from each to the next
abbrev pub charge_of : Charges → (node : ℕ) → (further : List ℕ) → ℕ
charge_of k u [] = k.node u
charge_of k u (v ∷ vs) = k.node u + k.edge u v + charge_of k v vs
