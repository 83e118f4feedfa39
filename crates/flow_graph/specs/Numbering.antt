-- The reached nodes of a graph, numbered anew without gaps.
use Rattle.std.specs.Prelude.{◌≡◌, ℕ, ◌<◌, ◌≤◌, true, Bool, List, length, map, filter, slice_index}
use Rattle.loop_nest.specs.Digraph.{Digraph}
use Rattle.method_flow.specs.Compact.{IsCompact}
use Rattle.flow_graph.specs.Reach.{flag_at}
use Rattle.flow_graph.specs.declared.numbering.Compact.{Compact}

-- the compact graph has a node for each of these numbers of the other graph
pub record IsCompactOf (g : Digraph) (c : Compact) : Type 0 where
  pub compact : IsCompact g c.graph (slice_index c.nodes)
  pub long : length c.nodes ≡ c.graph.nodes

-- `nodes` are the flagged ones of the first so many nodes, rising, and `numbers` has for each of those its place among them
pub record AreNumbered (flags : List Bool) (n : ℕ) (nodes numbers : List ℕ) : Type 0 where
  pub long : length numbers ≡ n
  pub few : length nodes ≤ n
  pub flagged : (u : ℕ) → u < length nodes → flag_at flags (slice_index nodes u) ≡ true
  pub within : (u : ℕ) → u < length nodes → slice_index nodes u < n
  pub number : (u : ℕ) → u < length nodes → slice_index numbers (slice_index nodes u) ≡ u
  pub below : (x : ℕ) → x < n → flag_at flags x ≡ true → slice_index numbers x < length nodes
  pub node : (x : ℕ) → x < n → flag_at flags x ≡ true → slice_index nodes (slice_index numbers x) ≡ x
  pub rising : (u v : ℕ) → v < length nodes → u < v → slice_index nodes u < slice_index nodes v

-- the edges from flagged nodes
abbrev pub edges_from : (flags : List Bool) → List (ℕ × ℕ) → List (ℕ × ℕ)
edges_from flags es = filter (λ e. flag_at flags e.0) es

-- the edges from flagged nodes, by the new numbers
abbrev pub renumbered_edges : (flags : List Bool) → (numbers : List ℕ) → List (ℕ × ℕ) → List (ℕ × ℕ)
renumbered_edges flags numbers es = map (λ e. (slice_index numbers e.0, slice_index numbers e.1)) (edges_from flags es)

-- the flagged ones of these nodes, by the new numbers
abbrev pub renumbered_nodes : (flags : List Bool) → (numbers : List ℕ) → List ℕ → List ℕ
renumbered_nodes flags numbers us = map (λ u. slice_index numbers u) (filter (λ u. flag_at flags u) us)
