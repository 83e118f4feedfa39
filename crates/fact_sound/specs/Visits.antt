-- What the steps of a frame take where each visit of a node may be charged something of its own beside what the node is.
use Rattle.std.specs.Prelude.{◌≡◌, ℕ, ◌+◌, ◌≤◌, true, false, List, [], ◌∷◌, ◌++◌, map, sum_by}
use Rattle.method_cache.specs.Contents.{Cache, is_cached}
use Rattle.method_cache.specs.Regions.LookUps.{after}
use Rattle.bound_laws.specs.Soundness.Charges.{Charges, stall, AreCharged, HasSizes, start_fee, charge_of}
use Rattle.bound_laws.specs.Soundness.Stays.{IsCovered, EntersNone}

-- a visit of a node, which is charged so many cycles beside those of the node
pub record Visit : Type 0 where
  pub node : ℕ
  pub more : ℕ

-- each node is charged so much more
abbrev pub more_charged : Charges → (more : ℕ) → Charges
more_charged k more = record k { node = λ u. k.node u + more }

-- the nodes that are visited
abbrev pub visited : List Visit → List ℕ
visited vs = map (λ v. v.node) vs

-- all that visits are charged beside their nodes
abbrev pub more_of : List Visit → ℕ
more_of vs = sum_by (λ v. v.more) vs

-- As `Stays`, but that the charge of a step is that of its visit.
pub data Visits (k : Charges) : Cache → Visit → (further : List Visit) → (cycles : ℕ) → Type 0 where
  -- the last step
  last : {c : Cache} {u : Visit} (n : ℕ) → n ≤ k.node u.node + u.more → Visits k c u [] n
  -- an instruction that looks up no method, and goes on
  goes : {c : Cache} {u v : Visit} {cycles : ℕ} {vs : List Visit} (n : ℕ) → k.is_raise u.node ≡ false → k.is_raise v.node ≡ false
      → n ≤ k.node u.node + u.more
      → Visits k c v vs cycles → Visits k c u (v ∷ vs) (n + cycles)
  -- an instruction that raises by itself, while the method is in the cache
  raises : {c : Cache} {u v : Visit} {cycles : ℕ} {vs : List Visit} (n : ℕ) → k.is_raise u.node ≡ false → k.is_raise v.node ≡ true
      → EntersNone k u.node v.node → n ≤ k.node u.node + u.more → is_cached k.own c ≡ true
      → Visits k c v vs cycles → Visits k c u (v ∷ vs) (n + cycles)
  -- a raise step that comes to a handler: the method is looked up
  handles : {c : Cache} {u v : Visit} {cycles : ℕ} {vs : List Visit} (n : ℕ) → k.is_raise u.node ≡ true → k.is_raise v.node ≡ false
      → n ≤ k.node u.node + u.more
      → Visits k (after k.words (k.own ∷ []) c) v vs cycles → Visits k c u (v ∷ vs) (n + stall k (k.own ∷ []) c + cycles)
  -- a call that returns: the method is looked up
  returns : {c : Cache} {u v : Visit} {cycles : ℕ} {vs : List Visit} (n : ℕ) (ls : List ℕ) → k.is_raise u.node ≡ false → k.is_raise v.node ≡ false
      → IsCovered (more_charged k u.more) u.node n ls c
      → Visits k (after k.words (ls ++ k.own ∷ []) c) v vs cycles → Visits k c u (v ∷ vs) (n + stall k (ls ++ k.own ∷ []) c + cycles)
  -- a call whose frame is dropped: the method isn't looked up yet
  drops : {c : Cache} {u v : Visit} {cycles : ℕ} {vs : List Visit} (n : ℕ) (ls : List ℕ) → k.is_raise u.node ≡ false → k.is_raise v.node ≡ true
      → EntersNone k u.node v.node → IsCovered (more_charged k u.more) u.node n ls c
      → Visits k (after k.words ls c) v vs cycles → Visits k c u (v ∷ vs) (n + stall k ls c + cycles)

-- such a stay that starts at an instruction takes at most what its start, its nodes and its edges are charged, and what its visits are beside
abbrev pub VisitsArePaid : Type 0
VisitsArePaid =
    (k : Charges) → AreCharged k → (c : Cache) (u : Visit) (cycles : ℕ) (vs : List Visit) → HasSizes k c → k.is_raise u.node ≡ false → Visits k c u vs cycles
    → cycles ≤ start_fee k (k.region_of u.node) + charge_of k u.node (visited vs) + more_of (u ∷ vs)
