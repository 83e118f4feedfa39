-- The search for all methods that may run, until they pass the cache.
use Rattle.std.specs.Prelude.{◌≡◌, ◌⊎◌, ℕ, ◌^◌, ◌<◌, ◌≤◌, List, [], ◌∷◌, ◌++◌, sum_by, All, Contains}
use Rattle.std.specs.List.Sorted.{IsStrictlyIncreasing, IsPermutation}
use Rattle.method_cache.specs.Regions.Region.{AreDistinct}
use Rattle.method_flow.specs.Flow.{Flow}
use Rattle.call_regions.specs.Tables.{IsOfTable, IsReached, blocks_in}
use Rattle.call_regions.specs.declared.search.Search.{Search}
use Rattle.call_regions.specs.declared.answers.Region.{Region}
use Rattle.call_regions.specs.declared.answers.Region.TheVariants.{Fits, Exceeds}

-- the methods that were found, each once, with their blocks; what some of them run was looked at or is still to be looked at
pub record IsSearch (f : Flow) (block_words : ℕ) (s : Search) : Type 0 where
  pub within : (x : ℕ) → Contains s.queue x → Contains s.methods x
  pub distinct : AreDistinct s.methods
  pub queued_once : AreDistinct s.queue
  pub coded : All (IsOfTable f) s.methods
  pub blocks : s.blocks ≡ sum_by (blocks_in f block_words) s.methods

-- the method is among those that were found, beside the old ones
pub record Adds (f : Flow) (block_words : ℕ) (t : ℕ) (old new : Search) : Type 0 where
  pub search : IsSearch f block_words new
  pub queue : new.queue ≡ old.queue
  pub kept : (x : ℕ) → Contains old.methods x → Contains new.methods x
  pub has : Contains new.methods t
  pub only : (x : ℕ) → Contains new.methods x → Contains old.methods x ⊎ (x ≡ t)

-- the search found methods of a set beside the old ones, and all of the set where these don't pass the cache
pub record FindsAll (f : Flow) (block_words most : ℕ) (K : ℕ → Type 0) (old new : Search) : Type 0 where
  pub search : IsSearch f block_words new
  pub more : List ℕ
  pub queue : new.queue ≡ old.queue ++ more
  pub kept : (x : ℕ) → Contains old.methods x → Contains new.methods x
  pub methods : (x : ℕ) → Contains new.methods x → Contains old.methods x ⊎ Contains new.queue x
  pub no_other : (x : ℕ) → Contains new.queue x → Contains old.queue x ⊎ K x
  pub all : new.blocks ≤ most → (x : ℕ) → K x → Contains new.queue x

-- a search that found one method, and hasn't looked at what it runs
pub record IsFirst (f : Flow) (block_words : ℕ) (m : ℕ) (s : Search) : Type 0 where
  pub search : IsSearch f block_words s
  pub methods : s.methods ≡ m ∷ []
  pub queue : s.queue ≡ []
  pub small : s.blocks < 2 ^ 32

-- The search found the method and what may run while the methods of a set do, all of it where this doesn't pass the cache.
pub record IsWhole (f : Flow) (block_words most : ℕ) (m : ℕ) (K : ℕ → Type 0) (s : Search) : Type 0 where
  pub search : IsSearch f block_words s
  pub itself : Contains s.methods m
  pub no_other : (x : ℕ) → Contains s.methods x → (x ≡ m) ⊎ IsReached f K x
  pub all : s.blocks ≤ most → (x : ℕ) → IsReached f K x → Contains s.methods x

-- the methods of the search, rising, where they don't pass the cache
abbrev pub IsAnswer : (most : ℕ) → Search → Region → Type 0
IsAnswer most s (Fits xs) = (s.blocks ≤ most) × IsPermutation s.methods xs × IsStrictlyIncreasing xs
IsAnswer most s Exceeds = most < s.blocks
