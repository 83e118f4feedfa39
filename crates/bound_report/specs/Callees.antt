-- Which method's number is added at each call, and what is paid there for loads.
use Rattle.std.specs.Prelude.{◌≡◌, ◌≢◌, ℕ, ◌+◌, ◌-◌, ◌*◌, nat_lt, not, if◌then◌else◌, Bool, false, List, Contains, Option, Some, None, IsSome}
use Rattle.std.specs.Prelude.{unwrap_or, slice_get, slice_index_or}
use Rattle.method_flow.specs.declared.flow.Call.{Call}
use Rattle.method_flow.specs.Flow.{Coded, Flow, targets_of_call}
use Rattle.node_costs.specs.Costs.{method_load}
use Rattle.bound_rules.specs.Costs.{greatest_of}
use Rattle.bound_finder.specs.declared.known.Known.{Known}
use Rattle.bound_finder.specs.Known.{BoundSetting, known_at}
use Rattle.bound_report.specs.declared.callees.Callee.{Callee}

-- the number of a method where its call pays loads, or pays none
abbrev pub number_by : (pays : Bool) → Known → Option ℕ
number_by pays k = if pays then k.full else k.asked

-- of two methods with their numbers that of the greater number, and the first one of equals
abbrev pub better : Option (ℕ × ℕ) → ℕ → Option ℕ → Option (ℕ × ℕ)
better best x None = best
better None x (Some n) = Some (x, n)
better (Some y) x (Some n) = Some (if nat_lt y.1 n then (x, n) else y)

-- it has the greatest number of these methods, or none of them has one
abbrev pub IsGreatestTarget : List Known → (pays : Bool) → (targets : List ℕ) → Option ℕ → Type 0
IsGreatestTarget table pays targets None = greatest_of (λ x. number_by pays (known_at table x)) targets ≡ None
IsGreatestTarget table pays targets (Some x) =
    Contains targets x × IsSome (number_by pays (known_at table x))
    × (greatest_of (λ y. number_by pays (known_at table y)) targets ≡ number_by pays (known_at table x))

-- what a method's number with all loads has beside the one that is asked of it
abbrev pub more_of : Known → ℕ
more_of k = unwrap_or k.full 0 - unwrap_or k.asked 0

-- what a call of the method pays for loads, where the load of the caller is `back`
abbrev pub loads_by : (pays : Bool) → (back : ℕ) → Known → ℕ
loads_by pays back k = if pays then more_of k + back else 0

abbrev pub loads_at : List Known → (pays : Bool) → (back : ℕ) → (target : Option ℕ) → ℕ
loads_at table pays back None = 0
loads_at table pays back (Some x) = loads_by pays back (known_at table x)

-- what a call adds that may run these methods
pub record IsCallee (table : List Known) (pays : Bool) (back : ℕ) (targets : List ℕ) (c : Callee) : Type 0 where
  pub greatest : IsGreatestTarget table pays targets c.target
  pub loads : c.loads ≡ loads_at table pays back c.target

abbrev pub no_callee : Callee
no_callee = record { target = None; loads = 0 }

abbrev pub callee_at : List Callee → (node : ℕ) → Callee
callee_at cs u = slice_index_or cs u no_callee

-- What is added at each node, by the calls of a method: those pay loads that aren't said to be without.
pub record AreCallees (f : Flow) (calls : List Call) (table : List Known) (back : ℕ) (without : List Bool) (callees : List Callee) : Type 0 where
  pub at_calls : (c : Call) → Contains calls c
      → IsCallee table (not (slice_index_or without (2 * c.place) false)) back (targets_of_call f c) (callee_at callees (2 * c.place))
  pub others : (u : ℕ) → ((c : Call) → Contains calls c → u ≢ 2 * c.place) → callee_at callees u ≡ no_callee

-- so of the method m, by the table
abbrev pub AreCalleesOf : BoundSetting → (method : ℕ) → List Known → (without : List Bool) → List Callee → Type 0
AreCalleesOf set m table without callees = (k : Coded) → slice_get set.flow.methods m ≡ Some k
    → AreCallees set.flow k.calls table (method_load set.timing.read set.flow.methods m) without callees
