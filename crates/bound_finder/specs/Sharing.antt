-- What is answered of all methods of an order, which share what is known of those that they call.
use Rattle.std.specs.Prelude.{◌≡◌, ℕ, Bool, true, List, length, Contains, Option, Some, None, slice_get, slice_index_or}
use Rattle.section_check.specs.Least.{IsLeast}
use Rattle.method_flow.specs.declared.flow.Call.{Call}
use Rattle.method_flow.specs.Flow.{Flow, targets_of_call}
use Rattle.method_flow.specs.Recursion.{MayCall}
use Rattle.bytecode_model.specs.Program.{Program}
use Rattle.bound_finder.specs.declared.ending.MethodBound.{MethodBound}
use Rattle.bound_finder.specs.declared.known.Known.{Known}
use Rattle.bound_finder.specs.declared.methods.Methods.{Methods}
use Rattle.bound_finder.specs.Known.{BoundSetting, bounds_in, ForEach}
use Rattle.bound_finder.specs.Ending.{IsLargeWithin, IsMethodBound}
use Rattle.bound_finder.specs.Methods.{AreMethodsFound}
use Rattle.bound_finder.specs.Ready.{AreBehindCalls}

-- ---- the least method with a number that is too large

-- u stands beside one of these methods
abbrev pub IsBeside : (least : List (Option ℕ)) → (methods : List ℕ) → ℕ → Type 0
IsBeside least ms u = (x : ℕ) × Contains ms x × (slice_index_or least x None ≡ Some u)

-- u stands beside a method that one of these calls may run
abbrev pub IsBesideCalled : Flow → List Call → (least : List (Option ℕ)) → ℕ → Type 0
IsBesideCalled f calls least u = (c : Call) × Contains calls c × IsBeside least (targets_of_call f c) u

-- u is the method m, of which a number is too large
abbrev pub IsLargeAlone : (method : ℕ) → (too_large : Bool) → ℕ → Type 0
IsLargeAlone m large u = (u ≡ m) × (large ≡ true)

-- beside all that m may call stands the least of all that may run while it does of which a number is too large
abbrev pub AreLeastCalled : Program → List Known → (method : ℕ) → (least : List (Option ℕ)) → Type 0
AreLeastCalled P table m least = (x : ℕ) → MayCall P m x → IsLeast (IsLargeWithin P table x) (slice_index_or least x None)

-- the same of each of these methods
pub record AreLeastWithin (set : BoundSetting) (done : List ℕ) (table : List Known) (least : List (Option ℕ)) : Type 0 where
  pub long : length least ≡ length set.flow.methods
  pub each : ForEach set (λ P. AreBehindCalls P done → (m : ℕ) → Contains done m → IsLeast (IsLargeWithin P table m) (slice_index_or least m None))

-- ---- the answers

-- of each of these methods what is printed of it, or the least method with a number that is too large
pub record AreMethodBounds (set : BoundSetting) (methods : List ℕ) (bounds : List MethodBound) : Type 0 where
  pub long : length bounds ≡ length methods
  pub each : ForEach set (λ P. (i m : ℕ) (x : MethodBound) → slice_get methods i ≡ Some m → slice_get bounds i ≡ Some x
      → IsMethodBound P set.timing (bounds_in set) m x)

-- all methods are found of an order in which each stands behind all that it may call
pub record AreFoundFor (set : BoundSetting) (order : List ℕ) (a : Methods) : Type 0 where
  pub found : AreMethodsFound set order a
  pub behind : ForEach set (λ P. AreBehindCalls P order)
