-- The loops of a method that make objects, and their bounds.
use Rattle.std.specs.Prelude.{◌≡◌, ◌↔◌, ℕ, ◌/◌, ◌<◌, Bool, List, length, Option, None, MatchOption, map, unwrap_or, slice_index, slice_index_or}
use Rattle.loop_nest.specs.Digraph.{Digraph}
use Rattle.path_solver.specs.Reaching.{IsFlagged}
use Rattle.bytecode_model.specs.Program.{Program}
use Rattle.method_flow.specs.Keeping.{BoundOf}
use Rattle.method_flow.specs.Graphs.{IsGraphOf}
use Rattle.bound_rules.specs.Fitting.{header_bound}
use Rattle.memory_rules.specs.Heap.{LoopMakesObjects}
use Rattle.memory_bound.specs.declared.shapes.Shape.{Shape}
use Rattle.memory_bound.specs.declared.examining.MakingLoops.{MakingLoops}
use Rattle.memory_bound.specs.Shapes.{headers_in}

-- the header of loop i, by its number in the method's graph
abbrev pub header_in : Shape → ℕ → ℕ
header_in s i = slice_index (headers_in s) i

-- exactly the loops are flagged that make objects
abbrev pub AreMakingLoops : Program → (method : ℕ) → Shape → List Bool → Type 0
AreMakingLoops P m s making = (g : Digraph) → IsGraphOf P m g → (i : ℕ) → i < length s.nest → IsFlagged making i ↔ LoopMakesObjects P m g (header_in s i)

-- ---- by lists

-- loop i is flagged and has no bound
abbrev pub LacksAt : List Bool → List (Option ℕ) → ℕ → Type 0
LacksAt making bounds i = IsFlagged making i × (slice_index_or bounds i None ≡ None)

-- the place of the first header of such a loop
abbrev pub IsFirstWithout : List Bool → List (Option ℕ) → (headers : List ℕ) → Option ℕ → Type 0
IsFirstWithout making bounds headers o = MatchOption o ((i : ℕ) → i < length headers → ¬ LacksAt making bounds i)
    (λ p. (i : ℕ) × (i < length headers) × LacksAt making bounds i × (p ≡ slice_index headers i / 2) × ((k : ℕ) → k < i → ¬ LacksAt making bounds k))

-- the bounds of the loops that are flagged, and 0 for the others
pub record AreMakingBounds (making : List Bool) (bounds : List (Option ℕ)) (found : List ℕ) : Type 0 where
  pub long : length found ≡ length making
  pub flagged : (i : ℕ) → i < length making → IsFlagged making i → slice_index found i ≡ unwrap_or (slice_index_or bounds i None) 0
  pub others : (i : ℕ) → i < length making → ¬ IsFlagged making i → slice_index found i ≡ 0

-- ---- of a method

-- the bounds that are given for the loops
abbrev pub bounds_of_loops : BoundOf → (method : ℕ) → Shape → List (Option ℕ)
bounds_of_loops bounds m s = map (header_bound bounds m) (headers_in s)

pub record AreLoopsFound (bounds : BoundOf) (m : ℕ) (making : List Bool) (s : Shape) (l : MakingLoops) : Type 0 where
  pub unbounded : IsFirstWithout making (bounds_of_loops bounds m s) (headers_in s) l.unbounded
  pub bounds_are : AreMakingBounds making (bounds_of_loops bounds m s) l.bounds.items

-- the bounds of the loops that make objects, and 0 for the others
pub record AreBoundsOf (P : Program) (bounds : BoundOf) (m : ℕ) (s : Shape) (found : List ℕ) : Type 0 where
  pub making : List Bool
  pub long : length making ≡ length s.nest
  pub loops : AreMakingLoops P m s making
  pub are : AreMakingBounds making (bounds_of_loops bounds m s) found
