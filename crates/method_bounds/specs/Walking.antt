-- The depth-first walk along the calls of all methods.
use Rattle.std.specs.Prelude.{◌≡◌, ◌≢◌, ◌↔◌, ℕ, ◌<◌, Bool, true, false, List, [], length, map, take, sum_by, All, Contains, Some, slice_get, slice_index_or}
use Rattle.method_cache.specs.Regions.Region.{AreDistinct}
use Rattle.method_flow.specs.Flow.{Flow, Coded, targets_of_call}
use Rattle.method_flow.specs.declared.flow.Call.{Call}
use Rattle.call_regions.specs.Tables.{IsOfTable, IsTargetOf}
use Rattle.call_regions.specs.Walking.{EachRunsNext, AreBehindTargets, IsRing}
use Rattle.method_bounds.specs.declared.walk.State.{State}
use Rattle.method_bounds.specs.declared.walk.State.TheVariants.{New, Open, Ordered, Recursive}
use Rattle.method_bounds.specs.declared.walk.Visit.{Visit}
use Rattle.method_bounds.specs.declared.walk.Left.{Left}
use Rattle.method_bounds.specs.declared.walk.Walk.{Walk}

abbrev pub state_of : List State → ℕ → State
state_of states x = slice_index_or states x New

abbrev pub IsOrdered : List State → ℕ → Type 0
IsOrdered states x = state_of states x ≡ Ordered

-- how many times the walk has still to enter or leave a method
abbrev pub steps_of : State → ℕ
steps_of New = 2
steps_of Open = 1
steps_of Ordered = 0
steps_of Recursive = 0

abbrev pub steps_left : List State → ℕ
steps_left states = sum_by steps_of states

-- the walk has fewer steps left, and comes to methods for good
pub record GoesOn (old new : List State) : Type 0 where
  pub fewer : steps_left new < steps_left old
  pub come : (x : ℕ) → state_of old x ≢ New → state_of new x ≢ New

-- all targets of these lists are in the order
abbrev pub AreWalked : Flow → List State → (walked : List Bool) → Type 0
AreWalked f states walked = (n : ℕ) → slice_index_or walked n false ≡ true → All (IsOrdered states) (slice_index_or f.targets n [])

-- the targets of all these calls are
abbrev pub AreOrdered : Flow → List State → List Call → Type 0
AreOrdered f states calls = (c : Call) → Contains calls c → All (IsOrdered states) (targets_of_call f c)

-- all targets of the method are
pub record AreTargetsOrdered (f : Flow) (states : List State) (m : ℕ) : Type 0 where
  pub code : IsOfTable f m
  pub targets : AreOrdered f states code.method.calls

-- the targets of the calls before one are in the order, and this target of the calls isn't
pub record IsLeft (f : Flow) (states : List State) (calls : List Call) (x : Left) : Type 0 where
  pub before : AreOrdered f states (take x.call calls)
  pub target : IsTargetOf f calls x.target
  pub left : state_of states x.target ≢ Ordered

-- the targets of an open method's calls before one are in the order
pub record IsVisit (f : Flow) (states : List State) (v : Visit) : Type 0 where
  pub within : v.method < length f.methods
  pub before : (k : Coded) → slice_get f.methods v.method ≡ Some k → AreOrdered f states (take v.call k.calls)

abbrev pub methods_of : List Visit → List ℕ
methods_of visits = map (λ v. v.method) visits

-- The methods of a walk: those that are open, each of which runs the next; those in the order, each behind its targets; and those that run a ring of calls.
pub record AreMethods (f : Flow) (states : List State) (path order : List ℕ) : Type 0 where
  pub long : length states ≡ length f.methods
  pub open_are : (x : ℕ) → (state_of states x ≡ Open) ↔ Contains path x
  pub ordered_are : (x : ℕ) → IsOrdered states x ↔ Contains order x
  pub open_once : AreDistinct path
  pub ordered_once : AreDistinct order
  pub runs : EachRunsNext f path
  pub behind : AreBehindTargets f order
  pub rings : (x : ℕ) → state_of states x ≡ Recursive → (ring : List ℕ) × IsRing f x ring

-- a walk that has these visits open
pub record IsWalk (f : Flow) (w : Walk) (visits : List Visit) : Type 0 where
  pub methods : AreMethods f w.states.items (methods_of visits) w.order.items
  pub each : All (IsVisit f w.states.items) visits
  pub walked : AreWalked f w.states.items w.walked.items

-- one that has none open
pub record IsAtRest (f : Flow) (w : Walk) : Type 0 where
  pub walk : IsWalk f w w.visits.items
  pub empty : w.visits.items ≡ []

-- each method is in the order, behind its targets, or runs a ring of calls
pub record IsSettled (f : Flow) (states : List State) (order : List ℕ) : Type 0 where
  pub methods : AreMethods f states [] order
  pub come : (x : ℕ) → x < length f.methods → state_of states x ≢ New
