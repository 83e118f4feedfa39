-- What the walks that close no loop cost at most. Numbers are counted up to a distance_limit beyond all that a section may hold.
use Rattle.std.specs.Prelude.{◌≡◌, ℕ, ◌+◌, ◌^◌, ◌<◌, ◌≤◌, ◌⊎◌, ◌↔◌, ◌==◌, not, min, List, [], length, take, map, filter, All, Contains, slice_index}
use Rattle.std.specs.Prelude.{slice_index_or}
use Rattle.std.specs.List.Sorted.{IsStrictlyIncreasing}

abbrev pub distance_limit : ℕ
distance_limit = 2 ^ 66

abbrev pub limited : ℕ → ℕ
limited n = min n distance_limit

abbrev pub AreLimited : List ℕ → Type 0
AreLimited ds = All (λ d. d ≤ distance_limit) ds

-- the greatest of the numbers that f gives to these nodes, or 0 where there is none
pub record IsMost (f : ℕ → ℕ) (us : List ℕ) (most : ℕ) : Type 0 where
  pub above : (u : ℕ) → Contains us u → f u ≤ most
  pub attained : ((us ≡ []) × (most ≡ 0)) ⊎ ((u : ℕ) × Contains us u × (f u ≡ most))

-- what walks that end with u cost, u included
abbrev pub cost_through : List ℕ → List ℕ → ℕ → ℕ
cost_through costs dist u = limited (slice_index costs u + slice_index dist u)

-- the nodes from which edges lead to u, where these are listed for each node
abbrev pub sources_at : List (List ℕ) → ℕ → List ℕ
sources_at sources u = slice_index_or sources u []

-- the distance of u is the greatest cost of the walks that end with a source of an edge to it, and u's fee
pub record IsReachedBy (sources : ℕ → List ℕ) (costs fees dist : List ℕ) (u : ℕ) : Type 0 where
  pub arriving : ℕ
  pub most : IsMost (cost_through costs dist) (sources u) arriving
  pub is : slice_index dist u ≡ limited (arriving + slice_index fees u)

-- each of these nodes has its distance, and the others are as before
pub record AreSpread (sources : ℕ → List ℕ) (costs fees nodes old new : List ℕ) : Type 0 where
  pub long : length new ≡ length old
  pub limited : AreLimited new
  pub each : (u : ℕ) → Contains nodes u → IsReachedBy sources costs fees new u
  pub others : (u : ℕ) → ¬ Contains nodes u → slice_index new u ≡ slice_index old u

-- where an edge leads from one of these nodes to another, the source stands earlier
abbrev pub LeadForward : (ℕ → List ℕ) → List ℕ → Type 0
LeadForward sources nodes = (p j : ℕ) → j < length nodes → Contains (sources (slice_index nodes j)) p → Contains nodes p → Contains (take j nodes) p

-- for each node of the order, its place
pub record ArePlaces (order : List ℕ) (n : ℕ) (places : List ℕ) : Type 0 where
  pub long : length places ≡ n
  pub each : (j : ℕ) → j < length order → slice_index places (slice_index order j) ≡ j

-- the members but the header
abbrev pub others_of : List ℕ → ℕ → List ℕ
others_of members header = filter (λ u. not (u == header)) members

-- the members in the order: what stands at rising places
pub record ArePicked (order members nodes : List ℕ) : Type 0 where
  pub each : (u : ℕ) → Contains nodes u ↔ Contains members u
  pub ranks : List ℕ
  pub rising : IsStrictlyIncreasing ranks
  pub within : All (λ r. r < length order) ranks
  pub are : nodes ≡ map (λ r. slice_index order r) ranks
