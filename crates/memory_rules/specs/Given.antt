-- The bounds and the lengths that must be given, for methods that may run while the one does that is run first.
use Rattle.std.specs.Prelude.{◌≡◌, ◌⊎◌, ℕ, ℤ, Some, None}
use Rattle.loop_nest.specs.Digraph.{Digraph, IsBefore}
use Rattle.loop_nest.specs.Walks.{IsHeader}
use Rattle.bytecode_model.specs.Program.{Program}
use Rattle.bytecode_model.specs.Rows.{Row}
use Rattle.method_flow.specs.Nodes.{At, number_of}
use Rattle.method_flow.specs.Graphs.{IsGraphOf}
use Rattle.method_flow.specs.Keeping.{BoundOf}
use Rattle.method_flow.specs.Regions.{IsWithin}
use Rattle.code_lines.specs.Lines.{IsLine, IsPushedBefore}
use Rattle.memory_rules.specs.Heap.{AnArray, made_by, IsOn, LoopMakesObjects}

-- ---- bounds

-- the instruction at the place heads a loop of the method's graph that makes objects
pub record HeadsMaking (P : Program) (m p : ℕ) : Type 0 where
  pub graph : Digraph
  pub is_graph : IsGraphOf P m graph
  pub header : IsHeader graph (number_of (At p))
  pub makes : LoopMakesObjects P m graph (number_of (At p))

-- and no bound is given for it
pub record LacksMakingLine (P : Program) (bounds : BoundOf) (m p : ℕ) : Type 0 where
  pub within : IsWithin P P.boot m
  pub heads : HeadsMaking P m p
  pub none : bounds m p ≡ None

-- the first such loop, by method and place
pub record IsFirstLackingLine (P : Program) (bounds : BoundOf) (m p : ℕ) : Type 0 where
  pub lacks : LacksMakingLine P bounds m p
  pub first : (x q : ℕ) → IsBefore (x, q) (m, p) → ¬ LacksMakingLine P bounds x q

-- each loop that makes objects has a bound
abbrev pub HaveMakingLines : Program → BoundOf → Type 0
HaveMakingLines P bounds = (m p : ℕ) → ¬ LacksMakingLine P bounds m p

-- ---- lengths

-- control reaches the instruction at the place, and it makes arrays
pub record MakesArrays (P : Program) (m p : ℕ) : Type 0 where
  pub graph : Digraph
  pub on : IsOn P m graph p
  pub next : ℕ
  pub row : Row
  pub line : IsLine P m p next row
  pub element : ℕ
  pub makes : made_by P row ≡ Some (AnArray element)

-- the length of such an array is neither a constant nor given
pub record LacksLength (P : Program) (lengths : BoundOf) (m p : ℕ) : Type 0 where
  pub within : IsWithin P P.boot m
  pub arrays : MakesArrays P m p
  pub no_constant : (c : ℤ) → ¬ IsPushedBefore P m p c
  pub none : lengths m p ≡ None

-- the first such instruction, by method and place
pub record IsFirstLackingLength (P : Program) (lengths : BoundOf) (m p : ℕ) : Type 0 where
  pub lacks : LacksLength P lengths m p
  pub first : (x q : ℕ) → IsBefore (x, q) (m, p) → ¬ LacksLength P lengths x q

-- each instruction that makes arrays has a constant length, or one that is given
abbrev pub HaveLengths : Program → BoundOf → Type 0
HaveLengths P lengths = (m p : ℕ) → IsWithin P P.boot m → MakesArrays P m p → ((c : ℤ) × IsPushedBefore P m p c) ⊎ ((n : ℕ) × (lengths m p ≡ Some n))
