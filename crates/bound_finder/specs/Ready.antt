-- What a caller of `certify` or `bounds_of_all` sees to, and why there is no certificate.
use Rattle.std.specs.Prelude.{◌≡◌, ℕ, List, take, Contains, Some, slice_get}
use Rattle.bytecode_model.specs.Program.{Program}
use Rattle.method_flow.specs.Keeping.{BoundOf}
use Rattle.method_flow.specs.Recursion.{MayCall}
use Rattle.method_flow.specs.declared.timing.Timing.{Timing}
use Rattle.bound_rules.specs.declared.faults.BoundRefusal.{BoundRefusal}
use Rattle.bound_rules.specs.declared.faults.BoundRefusal.TheVariants.{TooLarge, NoMemory}
use Rattle.bound_rules.specs.Bounding.{IsFirstTooLarge, AreReducible, HaveLines}
use Rattle.call_regions.specs.Calling.{IsTargetsFirst}

-- The order has the root and all that may run while it does, targets first; their graphs are reducible, and each loop has a bound.
pub record IsReadyOrder (P : Program) (bound_of : BoundOf) (root : ℕ) (listed : List ℕ) : Type 0 where
  pub order : IsTargetsFirst P root listed
  pub reducible : AreReducible P root
  pub lines : HaveLines P bound_of root

-- each of these methods stands behind all that it may call
abbrev pub AreBehindCalls : Program → List ℕ → Type 0
AreBehindCalls P ms = (i m x : ℕ) → slice_get ms i ≡ Some m → MayCall P m x → Contains (take i ms) x

-- Each of these methods stands behind all that it may call. Of all that may run while one of them does the graphs are reducible, and each loop has a
-- bound.
pub record AreReady (P : Program) (bound_of : BoundOf) (methods : List ℕ) : Type 0 where
  pub behind : AreBehindCalls P methods
  pub reducible : (m : ℕ) → Contains methods m → AreReducible P m
  pub lines : (m : ℕ) → Contains methods m → HaveLines P bound_of m

-- there is no memory, and no other cause
abbrev pub IsWantOfMemory : BoundRefusal → Type 0
IsWantOfMemory NoMemory = Unit {0}
IsWantOfMemory fault = ⊥

-- why there is no certificate then: a number is too large, and the method is the least of which one is; of want of memory nothing is said, and no
-- other cause is left
abbrev pub IsSizeCause : Program → Timing → BoundOf → (root : ℕ) → BoundRefusal → Type 0
IsSizeCause P t bound_of root (TooLarge m) = IsFirstTooLarge P t bound_of root m
IsSizeCause P t bound_of root NoMemory = Unit {0}
IsSizeCause P t bound_of root fault = ⊥
