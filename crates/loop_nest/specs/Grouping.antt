-- How the sources of edges are put in the order of the edges' targets: those of a node lie in one list from its start to the next one's.
use Rattle.std.specs.Prelude.{◌≡◌, ℕ, ◌+◌, ◌-◌, ◌<◌, ◌≤◌, nat_lt, List, length, map, take, count_by, slice_index, slice_range}
use Rattle.std.specs.List.{range_with_len}
use Rattle.loop_nest.specs.Digraph.{sources_of}

-- what lies from each start to the next one
abbrev pub lists_from : List ℕ → List ℕ → List (List ℕ)
lists_from starts nodes = map (λ v. slice_range nodes (slice_index starts v) (slice_index starts (v + 1))) (range_with_len 0 (length starts - 1))

-- starts don't fall, and none lies past the end of the list
pub record AreStartsIn (starts nodes : List ℕ) : Type 0 where
  pub rising : (v : ℕ) → v + 1 < length starts → slice_index starts v ≤ slice_index starts (v + 1)
  pub within : (v : ℕ) → v < length starts → slice_index starts v ≤ length nodes

-- how many edges lead to nodes below v
abbrev pub edges_below : List (ℕ × ℕ) → ℕ → ℕ
edges_below es v = count_by (λ e. nat_lt e.1 v) es

-- for each of n nodes how many edges lead to lower ones, and at last how many edges there are
pub record AreStarts (es : List (ℕ × ℕ)) (n : ℕ) (starts : List ℕ) : Type 0 where
  pub long : length starts ≡ n + 1
  pub each : (v : ℕ) → v ≤ n → slice_index starts v ≡ edges_below es v

-- the sources of the first k edges stand where the lists of their targets are to be, each list as far as it goes
pub record ArePlaced (es : List (ℕ × ℕ)) (n k : ℕ) (places nodes : List ℕ) : Type 0 where
  pub long : length nodes ≡ length es
  pub places_long : length places ≡ n + 1
  pub next : (v : ℕ) → v < n → slice_index places v ≡ edges_below es v + length (sources_of (take k es) v)
  pub each : (v j : ℕ) → v < n → j < length (sources_of (take k es) v) → slice_index nodes (edges_below es v + j) ≡ slice_index (sources_of (take k es) v) j
