-- What a line says of a loop.
use Rattle.std.specs.Prelude.{◌≡◌, ℕ, ◌-◌, ◌%◌, ◌<◌, ◌^◌, Bool, List, length, All, slice_get, Option, Some, None}
use Rattle.std.specs.List.Sorted.{IsStrictlyIncreasing}

-- a node that is its header, what an iteration costs at most, its members, and whether it is a region
pub record LoopSaid : Type 0 where
  pub region : Bool
  pub header : ℕ
  pub cost : ℕ
  pub members : List ℕ

-- the last of the numbers, if there are some
abbrev pub last_of : List ℕ → Option ℕ
last_of numbers = slice_get numbers (length numbers - 1)

-- greater than the number, if there is one
abbrev pub IsAbove : Option ℕ → ℕ → Type 0
IsAbove None u = Unit {0}
IsAbove (Some last) u = last < u

-- numbers of nodes that rise, at least one
pub record AreLoopMembers (members : List ℕ) : Type 0 where
  pub some : 0 < length members
  pub rising : IsStrictlyIncreasing members
  pub small : All (λ u. u < 2 ^ 32) members

-- the header is an instruction
pub record IsLoopSaid (l : LoopSaid) : Type 0 where
  pub instruction : l.header % 2 ≡ 0
  pub header : l.header < 2 ^ 32
  pub cost : l.cost < 2 ^ 64
  pub members : AreLoopMembers l.members
