-- Where the loops of methods are headed.
use Rattle.std.specs.Prelude.{◌≡◌, ◌≢◌, ℕ, ◌<◌, ◌/◌, List, [], length, map, All, Some, slice_get, slice_index}
use Rattle.bytecode_model.specs.Program.{Program}
use Rattle.loop_nest.specs.Digraph.{Digraph}
use Rattle.loop_nest.specs.Reduction.{Leaves}
use Rattle.loop_nest.specs.Nest.{NaturalLoop, headers_of, IsNest}
use Rattle.method_flow.specs.Graphs.{IsGraphOf}
use Rattle.flow_graph.specs.Numbering.{IsCompactOf}
use Rattle.flow_graph.specs.declared.numbering.Compact.{Compact}
use Rattle.loop_finder.specs.declared.headers.LoopHeaders.{LoopHeaders}
use Rattle.loop_finder.specs.declared.headers.LoopHeaders.TheVariants.{Irreducible, Reducible}

-- ---- of one method

-- the reduction of the compact graph leaves some nodes, which have these numbers in the method's graph
pub record AreLeftIn (c : Compact) (nodes : List ℕ) : Type 0 where
  pub left : List ℕ
  pub leaves : Leaves c.graph left
  pub some : left ≢ []
  pub are : nodes ≡ map (slice_index c.nodes) left

-- it leaves none, and these are the places of the headers of the compact graph's loops
pub record AreHeadedIn (c : Compact) (places : List ℕ) : Type 0 where
  pub leaves : Leaves c.graph []
  pub loops : List NaturalLoop
  pub nest : IsNest c.graph loops
  pub are : places ≡ map (λ h. slice_index c.nodes h / 2) (headers_of loops)

abbrev pub AreHeadersIn : Compact → LoopHeaders → Type 0
AreHeadersIn c (Irreducible nodes) = AreLeftIn c nodes.items
AreHeadersIn c (Reducible places) = AreHeadedIn c places.items

-- so they are in the compact graph of the method's graph
pub record AreHeadersOf (P : Program) (m : ℕ) (x : LoopHeaders) : Type 0 where
  pub graph : Digraph
  pub is_graph : IsGraphOf P m graph
  pub compact : Compact
  pub is_compact : IsCompactOf graph compact
  pub are : AreHeadersIn compact x

-- ---- of so many methods, by number

pub record AreMethodHeaders (P : Program) (count : ℕ) (xs : List LoopHeaders) : Type 0 where
  pub long : length xs ≡ count
  pub each : (m : ℕ) (x : LoopHeaders) → slice_get xs m ≡ Some x → AreHeadersOf P m x

-- ---- what is found on the way

-- each edge leads to a node of a greater number, so that no walk comes back to a node
abbrev pub LeadsUp : Digraph → Type 0
LeadsUp g = All (λ e. e.0 < e.1) g.edges

-- the places of the headers of these loops, whose nodes have these numbers
abbrev pub ArePlacesOf : List NaturalLoop → (numbers : List ℕ) → LoopHeaders → Type 0
ArePlacesOf ls numbers (Irreducible nodes) = ⊥
ArePlacesOf ls numbers (Reducible places) = places.items ≡ map (λ h. slice_index numbers h / 2) (headers_of ls)
