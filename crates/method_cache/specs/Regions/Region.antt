-- Sets of methods, and what it takes to load each of them once.
use Rattle.std.specs.Prelude.{◌≢◌, ℕ, ◌+◌, ◌*◌, ◌<◌, ◌≤◌, ◌^◌, List, length, slice_index, sum_by, All, AllPairs}

-- each once
abbrev pub AreDistinct : List ℕ → Type 0
AreDistinct ms = AllPairs (λ a b. a ≢ b) ms

-- numbers of some of so many methods, each once
pub record AreRegionMembers (methods : ℕ) (members : List ℕ) : Type 0 where
  pub few : length members < 2 ^ 16
  pub within : All (λ m. m < methods) members
  pub distinct : AreDistinct members

-- the blocks that they take together, where each method takes so many
abbrev pub blocks_together : List ℕ → List ℕ → ℕ
blocks_together sizes members = sum_by (λ m. slice_index sizes m) members

-- they can all be in a cache of so many blocks at once
abbrev pub FitsCache : List ℕ → List ℕ → ℕ → Type 0
FitsCache sizes members blocks = blocks_together sizes members ≤ blocks

-- the cycles that the load of a method of so many words stalls, where a read waits r cycles
abbrev pub load_stall : ℕ → ℕ → ℕ
load_stall r words = 4 + words * (2 + r)

-- the cycles that the loads of all of them stall
abbrev pub stall_of : ℕ → List ℕ → List ℕ → ℕ
stall_of r words members = sum_by (λ m. load_stall r (slice_index words m)) members
