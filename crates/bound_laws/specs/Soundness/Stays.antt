-- What the steps of a frame take, with all that it calls, node by node.
use Rattle.std.specs.Prelude.{◌≡◌, ℕ, ◌+◌, ◌≤◌, true, false, List, [], ◌∷◌, ◌++◌, All, Contains, Option, Some, None}
use Rattle.method_cache.specs.Contents.{Cache, is_cached}
use Rattle.method_cache.specs.Regions.LookUps.{after}
use Rattle.bound_laws.specs.Soundness.Charges.{Charges, stall, load_of, AreCharged, HasSizes, start_fee, charge_of}

-- What a call at a node takes without its stalls, and the methods that it looks up before control comes back. In a region the charge of the node covers the
-- former, and the methods are among the region's; elsewhere it covers the stalls, too, and one load of the method itself.
abbrev pub IsCoveredIn : Charges → Option ℕ → (node taken : ℕ) → (look_ups : List ℕ) → Cache → Type 0
IsCoveredIn k None u n ls c = n + stall k ls c + load_of k k.own ≤ k.node u
IsCoveredIn k (Some l) u n ls c = (n ≤ k.node u) × All (Contains (k.methods l)) ls

abbrev pub IsCovered : Charges → (node taken : ℕ) → (look_ups : List ℕ) → Cache → Type 0
IsCovered k u n ls c = IsCoveredIn k (k.region_of u) u n ls c

-- an edge to a raise step stays in the region where it is, or leaves it
abbrev pub EntersNone : Charges → ℕ → ℕ → Type 0
EntersNone k u v = (l : ℕ) → k.region_of v ≡ Some l → k.region_of u ≡ Some l

-- The frame is at a node, with this cache. It goes on over these further nodes, in so many cycles; the look-up by which its caller's method is found at its end
-- is left out. The step at a node takes n cycles without its stalls.
pub data Stays (k : Charges) : Cache → (node : ℕ) → (further : List ℕ) → (cycles : ℕ) → Type 0 where
  -- the last step
  last : {c : Cache} {u : ℕ} (n : ℕ) → n ≤ k.node u → Stays k c u [] n
  -- an instruction that looks up no method, and goes on
  goes : {c : Cache} {u v cycles : ℕ} {vs : List ℕ} (n : ℕ) → k.is_raise u ≡ false → k.is_raise v ≡ false → n ≤ k.node u → Stays k c v vs cycles
      → Stays k c u (v ∷ vs) (n + cycles)
  -- an instruction that raises by itself, while the method is in the cache
  raises : {c : Cache} {u v cycles : ℕ} {vs : List ℕ} (n : ℕ) → k.is_raise u ≡ false → k.is_raise v ≡ true → EntersNone k u v → n ≤ k.node u
      → is_cached k.own c ≡ true → Stays k c v vs cycles
      → Stays k c u (v ∷ vs) (n + cycles)
  -- a raise step that comes to a handler: the method is looked up
  handles : {c : Cache} {u v cycles : ℕ} {vs : List ℕ} (n : ℕ) → k.is_raise u ≡ true → k.is_raise v ≡ false → n ≤ k.node u
      → Stays k (after k.words (k.own ∷ []) c) v vs cycles
      → Stays k c u (v ∷ vs) (n + stall k (k.own ∷ []) c + cycles)
  -- a call that returns: the method is looked up
  returns : {c : Cache} {u v cycles : ℕ} {vs : List ℕ} (n : ℕ) (ls : List ℕ) → k.is_raise u ≡ false → k.is_raise v ≡ false → IsCovered k u n ls c
      → Stays k (after k.words (ls ++ k.own ∷ []) c) v vs cycles → Stays k c u (v ∷ vs) (n + stall k (ls ++ k.own ∷ []) c + cycles)
  -- a call whose frame is dropped: the method isn't looked up yet
  drops : {c : Cache} {u v cycles : ℕ} {vs : List ℕ} (n : ℕ) (ls : List ℕ) → k.is_raise u ≡ false → k.is_raise v ≡ true → EntersNone k u v
      → IsCovered k u n ls c → Stays k (after k.words ls c) v vs cycles
      → Stays k c u (v ∷ vs) (n + stall k ls c + cycles)

-- a stay that starts at an instruction takes at most what its start, its nodes and its edges are charged
abbrev pub StaysArePaid : Type 0
StaysArePaid =
    (k : Charges) → AreCharged k → (c : Cache) (u cycles : ℕ) (vs : List ℕ) → HasSizes k c → k.is_raise u ≡ false → Stays k c u vs cycles
    → cycles ≤ start_fee k (k.region_of u) + charge_of k u vs
