-- Which methods only a size forbids a bound of, and what forbids one of each other.
use Rattle.std.specs.Prelude.{◌≡◌, ◌≢◌, ℕ, List, [], ◌∷◌, ◌++◌, length, Contains, Option, Some, None, slice_get, slice_index_or}
use Rattle.bound_texts.specs.Loops.Bounds.{LoopBound}
use Rattle.bytecode_model.specs.Program.{Program}
use Rattle.method_flow.specs.Flow.{Flow, IsFlowOf}
use Rattle.method_flow.specs.Keeping.{BoundOf}
use Rattle.method_flow.specs.Regions.{IsWithin}
use Rattle.method_flow.specs.declared.timing.Timing.{Timing}
use Rattle.node_costs.specs.Costs.{bounds_of}
use Rattle.answer_lines.specs.declared.bound.BoundCause.{BoundCause}
use Rattle.answer_lines.specs.declared.bound.BoundCause.TheVariants as causes
use Rattle.bound_rules.specs.Bounding.{HasNoRecursion}
use Rattle.bound_finder.specs.Ready.{AreReady}
use Rattle.method_bounds.specs.declared.causes.Leasts.{Leasts}
use Rattle.method_bounds.specs.declared.loops.Loops.{Loops}
use Rattle.method_bounds.specs.declared.walk.State.{State}
use Rattle.method_bounds.specs.declared.walk.State.TheVariants.{New, Recursive}
use Rattle.method_bounds.specs.Answers.{IsCauseFor}
use Rattle.method_bounds.specs.Leasts.{AreLeasts, leasts_at}
use Rattle.method_bounds.specs.Loops.{IsLoopCauseIn}
use Rattle.method_bounds.specs.Walking.{state_of}

-- ---- causes

-- The method runs a ring of calls, and that is the cause; or the first one lies in the loops of the methods that may run while it does, of which these are
-- the least.
pub record IsCauseOf (loops : List Loops) (state : State) (leasts : Leasts) (cause : Option BoundCause) : Type 0 where
  pub ring : state ≡ Recursive → cause ≡ Some causes.Recursion
  pub loop : state ≢ Recursive → (P : Program) (m : ℕ) → AreLeasts loops (IsWithin P m) leasts → IsLoopCauseIn loops (IsWithin P m) cause

-- by number
pub record AreCauses (loops : List Loops) (states : List State) (leasts : List Leasts) (found : List (Option BoundCause)) : Type 0 where
  pub long : length found ≡ length states
  pub each : (m : ℕ) (cause : Option BoundCause) → slice_get found m ≡ Some cause → IsCauseOf loops (state_of states m) (leasts_at leasts m) cause

-- the methods of an order that have no cause, as they stand in it
pub data ArePicked (found : List (Option BoundCause)) : (order picked : List ℕ) → Type 0 where
  none : ArePicked found [] []
  free : {order picked : List ℕ} (m : ℕ) → ArePicked found order picked → slice_index_or found m None ≡ None
      → ArePicked found (order ++ m ∷ []) (picked ++ m ∷ [])
  caused : {order picked : List ℕ} (m : ℕ) → ArePicked found order picked → slice_index_or found m None ≢ None → ArePicked found (order ++ m ∷ []) picked

-- ---- all methods

-- all is ready for the methods, and none of what may run while one does may call itself: only a size stands against a bound
pub record AreBoundable (P : Program) (bound_of : BoundOf) (methods : List ℕ) : Type 0 where
  pub ready : AreReady P bound_of methods
  pub calls : (m : ℕ) → Contains methods m → HasNoRecursion P m

-- the method stands in the order, or this cause stands against a bound of it, whatever the machine's timing
abbrev pub IsSortedOut : Program → BoundOf → (method : ℕ) → Option BoundCause → (order : List ℕ) → Type 0
IsSortedOut P bound_of m None order = Contains order m
IsSortedOut P bound_of m (Some cause) order = (t : Timing) → IsCauseFor P t bound_of m cause

-- each of these methods, by number, is sorted out, and only sizes stand against bounds of those in the order, in each program of the table
pub record AreSorted (f : Flow) (bounds : List LoopBound) (causes : List (Option BoundCause)) (order : List ℕ) : Type 0 where
  pub each : (m : ℕ) (cause : Option BoundCause) → slice_get causes m ≡ Some cause → (P : Program) → IsFlowOf P f
      → IsSortedOut P (bounds_of f bounds) m cause order
  pub boundable : (P : Program) → IsFlowOf P f → AreBoundable P (bounds_of f bounds) order
