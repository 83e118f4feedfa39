-- What look-ups of methods do to a cache, and which of them load.
use Rattle.std.specs.Prelude.{◌≡◌, ℕ, ◌+◌, ◌≤◌, if◌then◌else◌, List, [], ◌∷◌, ◌++◌, length, sum_by, All, Contains}
use Rattle.method_cache.specs.Contents.{Cache, is_cached, loaded, blocks_for}
use Rattle.method_cache.specs.Regions.Region.{AreDistinct, load_stall}

-- the methods that look-ups load, in order, where methods have these words: one that the cache doesn't hold is loaded
abbrev pub loads : (ℕ → List ℕ) → List ℕ → Cache → List ℕ
loads words [] c = []
loads words (m ∷ ms) c = if is_cached m c then loads words ms c else m ∷ loads words ms (loaded m (words m) c)

-- the cache after look-ups
abbrev pub after : (ℕ → List ℕ) → List ℕ → Cache → Cache
after words [] c = c
after words (m ∷ ms) c = if is_cached m c then after words ms c else after words ms (loaded m (words m) c)

-- the cycles that look-ups stall, where a read waits r cycles
abbrev pub stall_of_loads : (ℕ → List ℕ) → ℕ → List ℕ → Cache → ℕ
stall_of_loads words r look_ups c = sum_by (λ m. load_stall r (length (words m))) (loads words look_ups c)

-- the blocks that methods take together
abbrev pub blocks_taken : (ℕ → List ℕ) → ℕ → List ℕ → ℕ
blocks_taken words block_words members = sum_by (λ m. blocks_for block_words (length (words m))) members

-- look-ups of methods of a list whose blocks fit the cache together load each of them at most once, whatever the cache held
abbrev pub EachIsLoadedOnce : Type 0
EachIsLoadedOnce =
    (words : ℕ → List ℕ) (members look_ups : List ℕ) (c : Cache) → blocks_taken words c.block_words members ≤ c.blocks → All (Contains members) look_ups
    → AreDistinct (loads words look_ups c) × All (Contains members) (loads words look_ups c)

-- so these look-ups stall at most as long as the loads of all members together
abbrev pub LoadsKeepTheSum : Type 0
LoadsKeepTheSum =
    (words : ℕ → List ℕ) (members look_ups : List ℕ) (c : Cache) (r : ℕ) → blocks_taken words c.block_words members ≤ c.blocks → All (Contains members) look_ups
    → stall_of_loads words r look_ups c ≤ sum_by (λ m. load_stall r (length (words m))) members

-- look-ups keep the sizes of the cache
abbrev pub LookUpsKeepSizes : Type 0
LookUpsKeepSizes = (words : ℕ → List ℕ) (look_ups : List ℕ) (c : Cache)
    → ((after words look_ups c).blocks ≡ c.blocks) × ((after words look_ups c).block_words ≡ c.block_words)

-- look-ups ys behind look-ups xs find the cache as xs leave it
abbrev pub LookUpsFollow : Type 0
LookUpsFollow = (words : ℕ → List ℕ) (xs ys : List ℕ) (c : Cache) → after words (xs ++ ys) c ≡ after words ys (after words xs c)

-- and load from it what it lacks
abbrev pub LoadsFollow : Type 0
LoadsFollow = (words : ℕ → List ℕ) (xs ys : List ℕ) (c : Cache) → loads words (xs ++ ys) c ≡ loads words xs c ++ loads words ys (after words xs c)

-- and so their stalls add up
abbrev pub StallsFollow : Type 0
StallsFollow =
    (words : ℕ → List ℕ) (r : ℕ) (xs ys : List ℕ) (c : Cache)
    → stall_of_loads words r (xs ++ ys) c ≡ stall_of_loads words r xs c + stall_of_loads words r ys (after words xs c)
