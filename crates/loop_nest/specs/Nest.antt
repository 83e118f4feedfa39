-- The loops of a graph as a list.
use Rattle.std.specs.Prelude.{◌≢◌, ℕ, ◌<◌, ◌↔◌, List, [], length, map, slice_index, slice_index_or, All, Contains, Option, None, MatchOption}
use Rattle.std.specs.List.Sorted.{IsStrictlyIncreasing}
use Rattle.loop_nest.specs.Digraph.{Digraph}
use Rattle.loop_nest.specs.Walks.{IsHeader, IsMember}

-- a header, the members, rising, and the number of the next outer loop
pub record NaturalLoop : Type 0 where
  pub header : ℕ
  pub members : List ℕ
  pub outer : Option ℕ

abbrev pub headers_of : List NaturalLoop → List ℕ
headers_of ls = map (λ l. l.header) ls

abbrev pub header_at : List NaturalLoop → ℕ → ℕ
header_at ls i = slice_index (headers_of ls) i

abbrev pub members_at : List NaturalLoop → ℕ → List ℕ
members_at ls i = slice_index_or (map (λ l. l.members) ls) i []

abbrev pub outers_of : List NaturalLoop → List (Option ℕ)
outers_of ls = map (λ l. l.outer) ls

abbrev pub outer_at : List NaturalLoop → ℕ → Option ℕ
outer_at ls i = slice_index_or (outers_of ls) i None

-- the list has all members of the header's loop, in rising order
pub record IsLoopOf (g : Digraph) (l : NaturalLoop) : Type 0 where
  pub header : IsHeader g l.header
  pub rising : IsStrictlyIncreasing l.members
  pub members : (x : ℕ) → Contains l.members x ↔ IsMember g l.header x

-- loop k is another loop around loop i
pub record IsAround (ls : List NaturalLoop) (i k : ℕ) : Type 0 where
  pub below : k < length ls
  pub other : k ≢ i
  pub member : Contains (members_at ls k) (header_at ls i)

-- no loop is around loop i
abbrev pub IsOutermost : List NaturalLoop → ℕ → Type 0
IsOutermost ls i = (k : ℕ) → ¬ IsAround ls i k

-- loop j is the next loop around loop i: it lies within each other one
pub record IsNextOuter (ls : List NaturalLoop) (i j : ℕ) : Type 0 where
  pub around : IsAround ls i j
  pub next : (k : ℕ) → IsAround ls i k → Contains (members_at ls k) (header_at ls j)

-- these are exactly the loops of g, headers rising, and each knows its next outer loop
pub record IsNest (g : Digraph) (ls : List NaturalLoop) : Type 0 where
  pub rising : IsStrictlyIncreasing (headers_of ls)
  pub loops : All (IsLoopOf g) ls
  pub complete : (h : ℕ) → IsHeader g h → Contains (headers_of ls) h
  pub outer : (i : ℕ) → i < length ls → MatchOption (outer_at ls i) (IsOutermost ls i) (IsNextOuter ls i)
