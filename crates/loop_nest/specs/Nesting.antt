-- How the loops of a graph are found: outer loops first, and the members node by node.
use Rattle.std.specs.Prelude.{◌≡◌, ◌≢◌, ℕ, ◌<◌, ◌⊎◌, ◌↔◌, Bool, true, false, List, [], ◌∷◌, ◌++◌, length, slice_index, slice_index_or, All, Contains, Option}
use Rattle.std.specs.Prelude.{MatchOption}
use Rattle.std.specs.List.Sorted.{IsStrictlyIncreasing}
use Rattle.loop_nest.specs.Digraph.{Digraph}
use Rattle.loop_nest.specs.Walks.{IsHeader, IsMember}
use Rattle.loop_nest.specs.Search.{mark_at}
use Rattle.loop_nest.specs.Nest.{NaturalLoop, headers_of, outers_of, header_at, members_at}

-- loops numbered by their headers, rising, still without members: a loop for each header below n, and for each header below n the number of its loop
pub record AreHeadersBelow (g : Digraph) (n : ℕ) (ls : List NaturalLoop) (numbers : List ℕ) : Type 0 where
  pub rising : IsStrictlyIncreasing (headers_of ls)
  pub below : All (λ h. h < n) (headers_of ls)
  pub headers : All (IsHeader g) (headers_of ls)
  pub long : length numbers ≡ n
  pub numbered : (h : ℕ) → h < n → IsHeader g h → (slice_index numbers h < length ls) × (header_at ls (slice_index numbers h) ≡ h)
  pub empty : All (λ l. l.members ≡ []) ls

-- for each node, whether it is a header
pub record AreHeaderFlags (g : Digraph) (flags : List Bool) : Type 0 where
  pub long : length flags ≡ g.nodes
  pub each : (h : ℕ) → (slice_index_or flags h false ≡ true) ↔ IsHeader g h

-- among the loops with these headers `hs` that are `among` them, the one of this number is the innermost that has node x: its header lies in each
-- other one that has x
abbrev pub IsInnermost : Digraph → (ℕ → Type 0) → List ℕ → ℕ → Option ℕ → Type 0
IsInnermost g among hs x innermost = MatchOption innermost ((k : ℕ) → among k → ¬ IsMember g k x)
    (λ n. (n < length hs) × among (slice_index hs n) × IsMember g (slice_index hs n) x × ((k : ℕ) → among k → IsMember g k x → IsMember g k (slice_index hs n)))

-- each of these loops has as its outer loop the innermost other one that has its header
abbrev pub HaveOuters : Digraph → (ℕ → Type 0) → List ℕ → List (Option ℕ) → Type 0
HaveOuters g among hs outers =
    (n : ℕ) → n < length hs → among (slice_index hs n) → IsInnermost g (λ k. among k × (k ≢ slice_index hs n)) hs (slice_index hs n) (mark_at outers n)

-- for each node the number of the innermost of these loops that has it
pub record AreInnermost (g : Digraph) (among : ℕ → Type 0) (hs : List ℕ) (marks : List (Option ℕ)) : Type 0 where
  pub long : length marks ≡ g.nodes
  pub each : (x : ℕ) → x < g.nodes → IsInnermost g among hs x (mark_at marks x)

abbrev pub every_node : ℕ → Type 0
every_node k = Unit {0}

-- the loops but for their members, and for each node the number of the innermost loop that has it
pub record IsNesting (g : Digraph) (ls : List NaturalLoop) (marks : List (Option ℕ)) : Type 0 where
  pub numbers : List ℕ
  pub headers : AreHeadersBelow g g.nodes ls numbers
  pub outers : HaveOuters g every_node (headers_of ls) (outers_of ls)
  pub innermost : AreInnermost g every_node (headers_of ls) marks

-- headers and outer loops are as before
pub record KeepsOutline (old new : List NaturalLoop) : Type 0 where
  pub headers : headers_of new ≡ headers_of old
  pub outers : outers_of new ≡ outers_of old

-- each loop has its members below x, rising
pub record HaveMembersBelow (g : Digraph) (x : ℕ) (ls : List NaturalLoop) : Type 0 where
  pub rising : (n : ℕ) → n < length ls → IsStrictlyIncreasing (members_at ls n)
  pub each : (n y : ℕ) → n < length ls → Contains (members_at ls n) y ↔ ((y < x) × IsMember g (header_at ls n) y)

-- loop n has the header of loop `next`: x is still to be added to it
abbrev pub IsToCome : Digraph → List NaturalLoop → ℕ → Option ℕ → Type 0
IsToCome g ls n next = MatchOption next ⊥ (λ m. IsMember g (header_at ls n) (header_at ls m))

-- x was added to loop n, which has it and comes before loop `next`; or it is not yet added to it, where it has it at all
abbrev pub IsAddedOrNot : Digraph → ℕ → List NaturalLoop → List NaturalLoop → Option ℕ → ℕ → Type 0
IsAddedOrNot g x old new next n =
    (IsMember g (header_at old n) x × (¬ IsToCome g old n next) × (members_at new n ≡ members_at old n ++ x ∷ []))
    ⊎ ((IsMember g (header_at old n) x → IsToCome g old n next) × (members_at new n ≡ members_at old n))

-- node x was added to the loops that have it, up to loop `next`
pub record IsAdding (g : Digraph) (x : ℕ) (old new : List NaturalLoop) (next : Option ℕ) : Type 0 where
  pub outline : KeepsOutline old new
  pub goes_on : MatchOption next (Unit {0}) (λ m. (m < length old) × IsMember g (header_at old m) x)
  pub each : (n : ℕ) → n < length old → IsAddedOrNot g x old new next n
