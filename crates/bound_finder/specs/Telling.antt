-- What the calls of a method are told of all that they may run.
use Rattle.std.specs.Prelude.{◌≡◌, ◌≢◌, ◌↔◌, ℕ, ◌+◌, ◌*◌, ◌<◌, ◌≤◌, Bool, false, if◌then◌else◌, List, length, All, Contains, Option, Some, IsSome, IsTrue}
use Rattle.std.specs.Prelude.{option_map, unwrap_or, slice_get, slice_index, slice_index_or}
use Rattle.method_flow.specs.declared.flow.Call.{Call}
use Rattle.method_flow.specs.Flow.{Coded, Flow, targets_of_call}
use Rattle.bound_rules.specs.Costs.{greatest_of}
use Rattle.compact_walks.specs.Limited.{cycles_limit, limited}
use Rattle.bound_finder.specs.declared.known.Known.{Known}
use Rattle.bound_finder.specs.declared.telling.Told.{Told}
use Rattle.node_costs.specs.Costs.{method_load}
use Rattle.bound_finder.specs.Known.{BoundSetting, known_at}

-- a number with so many cycles more, when control comes back
abbrev pub with_back : ℕ → Option ℕ → Option ℕ
with_back back o = option_map (λ n. limited (n + back)) o

-- Of the methods that a call may run: whether one of them can end, the greatest of their numbers as far as they are asked of them, and the greatest
-- with all loads and the load of the caller when control comes back to it.
pub record IsToldBy (table : List Known) (back : ℕ) (targets : List ℕ) (told : Told) : Type 0 where
  pub goes_on : IsTrue told.goes_on ↔ ((x : ℕ) × Contains targets x × IsSome (known_at table x).full)
  pub inside : told.inside ≡ unwrap_or (greatest_of (λ x. (known_at table x).asked) targets) 0
  pub full : told.full ≡ unwrap_or (greatest_of (λ x. with_back back (known_at table x).full) targets) 0

-- each of the calls is told so
pub record AreToldBy (table : List Known) (back : ℕ) (f : Flow) (calls : List Call) (told : List Told) : Type 0 where
  pub long : length told ≡ length calls
  pub each : (i : ℕ) (c : Call) (s : Told) → slice_get calls i ≡ Some c → slice_get told i ≡ Some s → IsToldBy table back (targets_of_call f c) s

-- its numbers are limited
abbrev pub IsSmallTold : Told → Type 0
IsSmallTold s = (s.inside ≤ cycles_limit) × (s.full ≤ cycles_limit)

-- each of the calls of the method m, where its load is that of the table
abbrev pub AreToldIn : BoundSetting → (method : ℕ) → List Known → List Told → Type 0
AreToldIn set m table told =
    All IsSmallTold told × ((k : Coded) → slice_get set.flow.methods m ≡ Some k
    → AreToldBy table (method_load set.timing.read set.flow.methods m) set.flow k.calls told)

-- what is added at a call, where it costs nothing for loads or does
abbrev pub added_by : (without_loads : Bool) → Told → ℕ
added_by without s = if without then s.inside else s.full

-- costs to which it is added at each of the calls, where it is said of each node whether a call there costs nothing for loads; those past 64 bits count as 2^64
pub record AreToldAdded (own : List ℕ) (calls : List Call) (told : List Told) (without : List Bool) (costs : List ℕ) : Type 0 where
  pub long : length costs ≡ length own
  pub at_calls : (i : ℕ) (c : Call) (s : Told) → slice_get calls i ≡ Some c → slice_get told i ≡ Some s
      → slice_index costs (2 * c.place) ≡ limited (slice_index own (2 * c.place) + added_by (slice_index_or without (2 * c.place) false) s)
  pub others : (u : ℕ) → u < length own → ((c : Call) → Contains calls c → u ≢ 2 * c.place) → slice_index costs u ≡ slice_index own u
