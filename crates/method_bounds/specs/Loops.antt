-- What of the loops of methods stands against a bound, and the first of it among some methods.
use Rattle.std.specs.Prelude.{◌≡◌, ◌≢◌, ℕ, List, [], Option, Some, None, slice_get}
use Rattle.bound_texts.specs.Loops.Bounds.{LoopBound}
use Rattle.section_check.specs.Least.{IsLeast}
use Rattle.bytecode_model.specs.Program.{Program}
use Rattle.method_flow.specs.Flow.{Flow, IsFlowOf}
use Rattle.method_flow.specs.Keeping.{BoundOf}
use Rattle.node_costs.specs.Costs.{bounds_of}
use Rattle.answer_lines.specs.declared.bound.BoundCause.{BoundCause}
use Rattle.answer_lines.specs.declared.bound.BoundCause.TheVariants as causes
use Rattle.bound_rules.specs.Bounding.{IsLeftWith}
use Rattle.bound_causes.specs.Causes.{IsUnboundedIn}
use Rattle.method_bounds.specs.declared.loops.Loops.{Loops}
use Rattle.method_bounds.specs.declared.loops.Loops.TheVariants.{Bounded, Lacking, Irreducible}

-- The method's loops have one entry each, and all have a bound, or the first without one is headed at this place; or a loop has several entries.
abbrev pub AreLoops : Program → BoundOf → (method : ℕ) → Loops → Type 0
AreLoops P bound_of m Bounded = IsUnboundedIn P bound_of m None
AreLoops P bound_of m (Lacking p) = IsUnboundedIn P bound_of m (Some p)
AreLoops P bound_of m Irreducible = (nodes : List ℕ) × IsLeftWith P m nodes × (nodes ≢ [])

-- by number, for each program of the table
abbrev pub AreLoopsOf : Flow → List LoopBound → List Loops → Type 0
AreLoopsOf f bounds loops = (m : ℕ) (x : Loops) → slice_get loops m ≡ Some x → (P : Program) → IsFlowOf P f → AreLoops P (bounds_of f bounds) m x

-- ---- among some methods

-- it is one of these, and has the property
abbrev pub IsAmong : (K Has : ℕ → Type 0) → ℕ → Type 0
IsAmong K Has m = K m × Has m

-- a loop of the method has several entries
abbrev pub IsIrreducible : List Loops → (method : ℕ) → Type 0
IsIrreducible loops m = slice_get loops m ≡ Some Irreducible

-- a loop of it has no bound
abbrev pub IsLacking : List Loops → (method : ℕ) → Type 0
IsLacking loops m = (p : ℕ) × (slice_get loops m ≡ Some (Lacking p))

-- no loop of these methods has several entries
abbrev pub AreSingle : List Loops → (K : ℕ → Type 0) → Type 0
AreSingle loops K = (m : ℕ) → ¬ IsAmong K (IsIrreducible loops) m

-- the first cause that lies in the loops of these methods, if there is one: several entries, or else no bound, and of the least method
abbrev pub IsLoopCauseIn : List Loops → (K : ℕ → Type 0) → Option BoundCause → Type 0
IsLoopCauseIn loops K None = AreSingle loops K × ((m : ℕ) → ¬ IsAmong K (IsLacking loops) m)
IsLoopCauseIn loops K (Some causes.NoMethod) = ⊥
IsLoopCauseIn loops K (Some causes.Recursion) = ⊥
IsLoopCauseIn loops K (Some (causes.Irreducible m)) = IsLeast (IsAmong K (IsIrreducible loops)) (Some m)
IsLoopCauseIn loops K (Some (causes.MissingBound m p)) =
    AreSingle loops K × IsLeast (IsAmong K (IsLacking loops)) (Some m) × (slice_get loops m ≡ Some (Lacking p))
IsLoopCauseIn loops K (Some (causes.TooLarge m)) = ⊥

-- the first loop without a bound of a method, by what is said of its loops
abbrev pub missing_in : ℕ → Option Loops → Option BoundCause
missing_in m (Some (Lacking p)) = Some (causes.MissingBound m p)
missing_in m _ = None

abbrev pub missing_of : List Loops → (method : Option ℕ) → Option BoundCause
missing_of loops None = None
missing_of loops (Some m) = missing_in m (slice_get loops m)
