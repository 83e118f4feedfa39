-- What is found of methods.
use Rattle.std.specs.Prelude.{◌≡◌, ◌↔◌, ◌⊎◌, ℕ, ℤ, ◌*◌, ◌^◌, ◌<◌, ◌≤◌, false, List, Contains, Option, Some, None, MatchOption, IsTrue, slice_index_or}
use Rattle.section_check.specs.Least.{IsLeast}
use Rattle.bytecode_model.specs.Program.{Program}
use Rattle.method_flow.specs.Calls.{IsStartOf}
use Rattle.method_flow.specs.Keeping.{BoundOf}
use Rattle.method_flow.specs.Recursion.{MayCall}
use Rattle.method_flow.specs.Regions.{IsWithin}
use Rattle.code_lines.specs.Lines.{IsPushedBefore}
use Rattle.memory_rules.specs.Heap.{MakesObjects, Part, OfMethod, MayMake, IsMostMade}
use Rattle.memory_rules.specs.Given.{HeadsMaking, MakesArrays}
use Rattle.memory_bound.specs.declared.found.Found.{Found}

-- of a method of which nothing is found
abbrev pub unknown : Found
unknown = record { reducible = false; makes = false; unbounded = None; unlimited = None; heap = None }

abbrev pub found_at : List Found → (method : ℕ) → Found
found_at table m = slice_index_or table m unknown

-- ---- one method

-- a loop of the method makes objects, and no bound is given for it
abbrev pub LacksLoopBound : Program → BoundOf → (method place : ℕ) → Type 0
LacksLoopBound P bounds m p = HeadsMaking P m p × (bounds m p ≡ None)

abbrev pub HasLoopBounds : Program → BoundOf → (method : ℕ) → Type 0
HasLoopBounds P bounds m = (p : ℕ) → ¬ LacksLoopBound P bounds m p

-- so it is for all that may run while the method does
abbrev pub HaveBoundsWithin : Program → BoundOf → (method : ℕ) → Type 0
HaveBoundsWithin P bounds m = (t : ℕ) → IsWithin P m t → HasLoopBounds P bounds t

-- an instruction of the method makes arrays of no length
pub record IsUnlimited (P : Program) (lengths : BoundOf) (m p : ℕ) : Type 0 where
  pub arrays : MakesArrays P m p
  pub no_constant : (c : ℤ) → ¬ IsPushedBefore P m p c
  pub none : lengths m p ≡ None

-- it makes no arrays, or they have a length
abbrev pub HasArrayLength : Program → BoundOf → (method place : ℕ) → Type 0
HasArrayLength P lengths m p = MakesArrays P m p → ((c : ℤ) × IsPushedBefore P m p c) ⊎ ((n : ℕ) × (lengths m p ≡ Some n))

-- the first instruction without a length; or each that makes arrays has one
abbrev pub IsFirstUnlimitedOf : Program → BoundOf → (method : ℕ) → Option ℕ → Type 0
IsFirstUnlimitedOf P lengths m o = MatchOption o ((p : ℕ) → HasArrayLength P lengths m p)
    (λ p. IsUnlimited P lengths m p × ((q : ℕ) → q < p → HasArrayLength P lengths m q))

-- ---- numbers past 64 bits

-- a part of a run may make more words than 64 bits tell
pub record Exceeds (P : Program) (bounds lengths : BoundOf) (part : Part) : Type 0 where
  pub words : ℕ
  pub may : MayMake P bounds lengths part words
  pub exceeds : 2 ^ 64 ≤ words

-- the most words that it may make, or none where they exceed 64 bits
abbrev pub IsMostOr : Program → (bounds lengths : BoundOf) → Part → Option ℕ → Type 0
IsMostOr P bounds lengths part o = MatchOption o (Exceeds P bounds lengths part) (IsMostMade P bounds lengths part)

-- ---- what is found

pub record IsMemoryFoundOf (P : Program) (bounds lengths : BoundOf) (m : ℕ) (x : Found) : Type 0 where
  pub makes : IsTrue x.makes ↔ MakesObjects P m
  pub unbounded : IsLeast (LacksLoopBound P bounds m) x.unbounded
  pub unlimited : IsFirstUnlimitedOf P lengths m x.unlimited
  pub heap : HaveBoundsWithin P bounds m → IsMostOr P bounds lengths (OfMethod m) x.heap

-- of all that the method may call
abbrev pub AreFound : Program → (bounds lengths : BoundOf) → List Found → (method : ℕ) → Type 0
AreFound P bounds lengths table m = (t : ℕ) → MayCall P m t → IsMemoryFoundOf P bounds lengths t (found_at table t)

-- of these it is known whether they make objects, and how many words
abbrev pub KnowMaking : Program → List Found → (method : ℕ) → Type 0
KnowMaking P table m = (t : ℕ) → MayCall P m t → IsTrue (found_at table t).makes ↔ MakesObjects P t

abbrev pub KnowHeaps : Program → (bounds lengths : BoundOf) → List Found → (method : ℕ) → Type 0
KnowHeaps P bounds lengths table m = (t : ℕ) → MayCall P m t → IsMostOr P bounds lengths (OfMethod t) (found_at table t).heap

-- the instructions among these nodes of the method's graph begin at starts of its code
abbrev pub BeginInstructions : Program → (method : ℕ) → List ℕ → Type 0
BeginInstructions P m nodes = (p : ℕ) → Contains nodes (2 * p) → IsStartOf P m p
