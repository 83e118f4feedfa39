-- Numbers of which those past 64 bits count as one.
use Rattle.std.specs.Prelude.{◌≡◌, ℕ, ◌^◌, ◌<◌, ◌≤◌, nat_lt, if◌then◌else◌, List, map, All, Contains, slice_index, Option, option_map}

-- numbers from here on are not told apart
abbrev pub cycles_limit : ℕ
cycles_limit = 2 ^ 64

abbrev pub limited : ℕ → ℕ
limited n = if nat_lt n cycles_limit then n else cycles_limit

abbrev pub limited_of : Option ℕ → Option ℕ
limited_of o = option_map limited o

-- the costs of these nodes
abbrev pub picked : (nodes costs : List ℕ) → List ℕ
picked nodes costs = map (slice_index costs) nodes

-- each of them is within 64 bits
abbrev pub AreSmallAt : (nodes costs : List ℕ) → Type 0
AreSmallAt nodes costs = All (λ x. slice_index costs x < cycles_limit) nodes

-- one of them isn't
pub record SomeExceeds (nodes costs : List ℕ) : Type 0 where
  pub node : ℕ
  pub among : Contains nodes node
  pub exceeds : cycles_limit ≤ slice_index costs node

-- the costs of the nodes, where each is within 64 bits
pub record ArePicked (nodes costs found : List ℕ) : Type 0 where
  pub are : found ≡ picked nodes costs
  pub small : AreSmallAt nodes costs
