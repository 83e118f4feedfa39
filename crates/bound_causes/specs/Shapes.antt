-- What the reduction of a method's graph leaves, or where its loops are headed.
use Rattle.std.specs.Prelude.{◌≡◌, ◌≢◌, ℕ, ◌/◌, List, [], map, slice_index}
use Rattle.loop_nest.specs.Digraph.{Digraph}
use Rattle.loop_nest.specs.Reduction.{Leaves}
use Rattle.loop_nest.specs.Nest.{NaturalLoop, headers_of, IsNest}
use Rattle.bytecode_model.specs.Program.{Program}
use Rattle.bound_rules.specs.Bounding.{IsLeftWith}
use Rattle.bound_causes.specs.declared.shapes.Shape.{Shape}
use Rattle.bound_causes.specs.declared.shapes.Shape.TheVariants.{Irreducible, Reducible}
use Rattle.bound_causes.specs.Headers.{AreHeaderPlaces}

-- the nodes that the reduction leaves, of which there are some, or the places of the headers where it leaves none
abbrev pub IsShape : Program → (method : ℕ) → Shape → Type 0
IsShape P m (Irreducible nodes) = IsLeftWith P m nodes.items × (nodes.items ≢ [])
IsShape P m (Reducible places) = IsLeftWith P m [] × AreHeaderPlaces P m places.items

-- ---- on compact graphs, whose nodes have these numbers in the method's graph

-- the reduction leaves some nodes, which have these numbers
pub record AreLeft (d : Digraph) (numbers nodes : List ℕ) : Type 0 where
  pub left : List ℕ
  pub leaves : Leaves d left
  pub some : left ≢ []
  pub are : nodes ≡ map (slice_index numbers) left

-- the places of the headers of its loops, where it leaves none
pub record AreHeaded (d : Digraph) (numbers places : List ℕ) : Type 0 where
  pub leaves : Leaves d []
  pub loops : List NaturalLoop
  pub nest : IsNest d loops
  pub are : places ≡ map (λ h. slice_index numbers h / 2) (headers_of loops)

abbrev pub IsCompactShape : Digraph → (numbers : List ℕ) → Shape → Type 0
IsCompactShape d numbers (Irreducible nodes) = AreLeft d numbers nodes.items
IsCompactShape d numbers (Reducible places) = AreHeaded d numbers places.items
