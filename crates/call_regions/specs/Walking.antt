-- The depth-first walk that puts targets first.
use Rattle.std.specs.Prelude.{◌≡◌, ◌≢◌, ◌↔◌, ℕ, ◌+◌, ◌-◌, ◌<◌, Bool, true, false, List, [], length, map, take, sum_by, All, Contains, slice_get, slice_index}
use Rattle.std.specs.Prelude.{slice_index_or, Some}
use Rattle.method_cache.specs.Regions.Region.{AreDistinct}
use Rattle.method_flow.specs.Flow.{Flow, Coded, targets_of_call}
use Rattle.method_flow.specs.declared.flow.Call.{Call}
use Rattle.call_regions.specs.Tables.{IsOfTable, Runs, IsReached}
use Rattle.call_regions.specs.declared.walk.State.{State}
use Rattle.call_regions.specs.declared.walk.State.TheVariants.{New, Open, Done}
use Rattle.call_regions.specs.declared.walk.Visit.{Visit}
use Rattle.call_regions.specs.declared.walk.Walk.{Walk}
use Rattle.call_regions.specs.declared.answers.CallFault.{CallFault}
use Rattle.call_regions.specs.declared.answers.CallFault.TheVariants.{NoMemory, Recursion}

abbrev pub state_of : List State → ℕ → State
state_of states x = slice_index_or states x New

abbrev pub IsDone : List State → ℕ → Type 0
IsDone states x = state_of states x ≡ Done

-- how many times the walk has still to enter or leave a method
abbrev pub steps_of : State → ℕ
steps_of New = 2
steps_of Open = 1
steps_of Done = 0

abbrev pub steps_left : List State → ℕ
steps_left states = sum_by steps_of states

-- all targets of these lists are done
abbrev pub AreWalked : Flow → List State → (walked : List Bool) → Type 0
AreWalked f states walked = (n : ℕ) → slice_index_or walked n false ≡ true → All (IsDone states) (slice_index_or f.targets n [])

-- the targets of a call before a place are done
abbrev pub AreDoneUpTo : Flow → List State → Call → (target : ℕ) → Type 0
AreDoneUpTo f states c target = (j t : ℕ) → j < target → slice_get (targets_of_call f c) j ≡ Some t → IsDone states t

-- the targets of the calls before a place, and those of the call there before another place, are done
pub record AreDoneBefore (f : Flow) (states : List State) (calls : List Call) (call target : ℕ) : Type 0 where
  pub earlier : (i : ℕ) (c : Call) → i < call → slice_get calls i ≡ Some c → All (IsDone states) (targets_of_call f c)
  pub targets : (c : Call) → slice_get calls call ≡ Some c → AreDoneUpTo f states c target

-- the targets of all calls are done
abbrev pub AreAllDone : Flow → List State → List Call → Type 0
AreAllDone f states calls = (c : Call) → Contains calls c → All (IsDone states) (targets_of_call f c)

-- the call at a place has a target that isn't done
pub record IsLeft (f : Flow) (states : List State) (calls : List Call) (call target t : ℕ) : Type 0 where
  pub at : Call
  pub call_is : slice_get calls call ≡ Some at
  pub target_is : slice_get (targets_of_call f at) target ≡ Some t
  pub left : IsDone states t → ⊥

-- the targets of an open method were looked at up to a place
pub record IsVisit (f : Flow) (states : List State) (v : Visit) : Type 0 where
  pub within : v.method < length f.methods
  pub before : (k : Coded) → slice_get f.methods v.method ≡ Some k → AreDoneBefore f states k.calls v.call v.target

-- the target at the visit's place isn't done
pub record IsLeftAt (f : Flow) (states : List State) (v : Visit) (t : ℕ) : Type 0 where
  pub code : IsOfTable f v.method
  pub target : IsLeft f states code.method.calls v.call v.target t

-- all targets of the method are done
pub record AreMethodsDone (f : Flow) (states : List State) (m : ℕ) : Type 0 where
  pub code : IsOfTable f m
  pub targets : AreAllDone f states code.method.calls

abbrev pub methods_of : List Visit → List ℕ
methods_of visits = map (λ v. v.method) visits

-- each method of a list runs the next
abbrev pub EachRunsNext : Flow → List ℕ → Type 0
EachRunsNext f ms = (i : ℕ) → i + 1 < length ms → Runs f (slice_index ms i) (slice_index ms (i + 1))

-- each method is behind its targets
abbrev pub AreBehindTargets : Flow → List ℕ → Type 0
AreBehindTargets f order = (i m : ℕ) → slice_get order i ≡ Some m → IsOfTable f m × ((t : ℕ) → Runs f m t → Contains (take i order) t)

-- the methods of a walk from a root: those that are open, each of which runs the next, and those that are done
pub record AreMethods (f : Flow) (root : ℕ) (states : List State) (path done : List ℕ) : Type 0 where
  pub long : length states ≡ length f.methods
  pub open_are : (x : ℕ) → (state_of states x ≡ Open) ↔ Contains path x
  pub done_are : (x : ℕ) → (state_of states x ≡ Done) ↔ Contains done x
  pub open_once : AreDistinct path
  pub done_once : AreDistinct done
  pub runs : EachRunsNext f path
  pub behind : AreBehindTargets f done
  pub reached : (x : ℕ) → state_of states x ≢ New → IsReached f (λ y. y ≡ root) x
  pub from : state_of states root ≢ New

-- a walk that has these visits open
pub record IsWalk (f : Flow) (w : Walk) (visits : List Visit) : Type 0 where
  pub methods : AreMethods f w.root w.states.items (methods_of visits) w.done.items
  pub each : All (IsVisit f w.states.items) visits
  pub walked : AreWalked f w.states.items w.walked.items

-- each runs the next, and the last the first; all may run while the root does
pub record IsRing (f : Flow) (root : ℕ) (ms : List ℕ) : Type 0 where
  pub some : 0 < length ms
  pub runs : EachRunsNext f ms
  pub around : Runs f (slice_index ms (length ms - 1)) (slice_index ms 0)
  pub reached : All (IsReached f (λ y. y ≡ root)) ms
  pub distinct : AreDistinct ms

abbrev pub IsRingCause : Flow → (root : ℕ) → CallFault → Type 0
IsRingCause f root NoMemory = Unit {0}
IsRingCause f root (Recursion ms) = IsRing f root ms

-- exactly the methods that may run while the root does, each once and behind its targets
pub record IsTableOrder (f : Flow) (root : ℕ) (order : List ℕ) : Type 0 where
  pub once : AreDistinct order
  pub behind : AreBehindTargets f order
  pub reached : (x : ℕ) → Contains order x → IsReached f (λ y. y ≡ root) x
  pub from : Contains order root
