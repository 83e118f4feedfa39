-- The need, or the first cause that is found why there is none.
use Rattle.std.specs.Prelude.{◌≡◌, ◌≢◌, ℕ, ◌^◌, ◌<◌, List, [], Contains, Option, Some, None, MatchOption}
use Rattle.bytecode_model.specs.Program.{Program}
use Rattle.method_flow.specs.Keeping.{BoundOf}
use Rattle.bound_rules.specs.Bounding.{IsLeftWith}
use Rattle.memory_rules.specs.declared.causes.NeedFault.{NeedFault}
use Rattle.memory_rules.specs.declared.causes.NeedFault.TheVariants.{Irreducible, MissingBound, MissingSize, TooLarge, NoMemory}
use Rattle.section_check.specs.Least.{IsLeast}
use Rattle.memory_rules.specs.Given.{IsFirstLackingLine, IsFirstLackingLength, HaveLengths, HaveMakingLines}
use Rattle.memory_bound.specs.declared.found.Found.{Found}
use Rattle.memory_bound.specs.Found.{found_at}
use Rattle.memory_bound.specs.Causes.{NeedIsTooLarge}

-- ---- among these methods, which rise

-- of the least method whose graph's reduction leaves nodes, these are left; of want of memory nothing is said
abbrev pub IsShapesFault : Program → (methods : List ℕ) → NeedFault → Type 0
IsShapesFault P ms (Irreducible m nodes) = Contains ms m × IsLeftWith P m nodes × (nodes ≢ []) × ((x : ℕ) → Contains ms x → x < m → IsLeftWith P x [])
IsShapesFault P ms NoMemory = Unit {0}
IsShapesFault P ms fault = ⊥

-- of this method; of want of memory nothing is said
abbrev pub IsShapeFaultOf : Program → (method : ℕ) → NeedFault → Type 0
IsShapeFaultOf P x (Irreducible m nodes) = (m ≡ x) × IsLeftWith P m nodes × (nodes ≢ [])
IsShapeFaultOf P x NoMemory = Unit {0}
IsShapeFaultOf P x fault = ⊥

abbrev pub NoneLacksBound : List Found → (methods : List ℕ) → Type 0
NoneLacksBound table ms = (m : ℕ) → Contains ms m → (found_at table m).unbounded ≡ None

abbrev pub NoneLacksLength : List Found → (methods : List ℕ) → Type 0
NoneLacksLength table ms = (m : ℕ) → Contains ms m → (found_at table m).unlimited ≡ None

-- there are words, within 64 bits
abbrev pub IsSmall : Option ℕ → Type 0
IsSmall o = MatchOption o ⊥ (λ words. words < 2 ^ 64)

abbrev pub NoneTooLarge : List Found → (methods : List ℕ) → Type 0
NoneTooLarge table ms = (m : ℕ) → Contains ms m → IsSmall (found_at table m).heap

pub record HaveNoCause (table : List Found) (ms : List ℕ) : Type 0 where
  pub bounds : NoneLacksBound table ms
  pub lengths : NoneLacksLength table ms
  pub sizes : NoneTooLarge table ms

-- the fault is the first of its kind, and none of a kind before it is found
abbrev pub IsFoundFault : List Found → (methods : List ℕ) → NeedFault → Type 0
IsFoundFault table ms (MissingBound m p) = Contains ms m × ((found_at table m).unbounded ≡ Some p)
    × ((x : ℕ) → Contains ms x → x < m → (found_at table x).unbounded ≡ None)
IsFoundFault table ms (MissingSize m p) = NoneLacksBound table ms
    × (Contains ms m × ((found_at table m).unlimited ≡ Some p) × ((x : ℕ) → Contains ms x → x < m → (found_at table x).unlimited ≡ None))
IsFoundFault table ms (TooLarge m) = NoneLacksBound table ms × NoneLacksLength table ms
    × (Contains ms m × ((found_at table m).heap ≡ None) × ((x : ℕ) → Contains ms x → x < m → IsSmall (found_at table x).heap))
IsFoundFault table ms fault = ⊥

-- ---- of a program

-- the fault, where each cycle is a loop with one entry and no methods call one another in a cycle; of want of memory nothing is said
abbrev pub IsFaultIn : Program → (bounds lengths : BoundOf) → NeedFault → Type 0
IsFaultIn P bounds lengths (MissingBound m p) = IsFirstLackingLine P bounds m p
IsFaultIn P bounds lengths (MissingSize m p) = HaveMakingLines P bounds × IsFirstLackingLength P lengths m p
IsFaultIn P bounds lengths (TooLarge m) = HaveMakingLines P bounds × HaveLengths P lengths × IsLeast (NeedIsTooLarge P bounds lengths) (Some m)
IsFaultIn P bounds lengths NoMemory = Unit {0}
IsFaultIn P bounds lengths fault = ⊥
