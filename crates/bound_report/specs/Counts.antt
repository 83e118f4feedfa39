-- How often a greatest walk of a method visits its nodes and enters its loops, and what it pays there.
use Rattle.std.specs.Prelude.{◌≡◌, ℕ, ◌+◌, ◌==◌, not, Bool, true, false, List, map, count_by, slice_index, All, Contains, Option, Some, None}
use Rattle.std.specs.List.Sorted.{IsStrictlyIncreasing}
use Rattle.loop_nest.specs.Digraph.{Digraph}
use Rattle.section_check.specs.Bounded.{BoundedLoop, IsBoundedWalk, cost_of, entries}
use Rattle.bytecode_model.specs.Program.{Program}
use Rattle.method_flow.specs.Nodes.{Node, At, RaiseAt, number_of}
use Rattle.method_flow.specs.Calls.{IsStartOf, IsTarget}
use Rattle.method_flow.specs.Keeping.{BoundOf}
use Rattle.method_flow.specs.Regions.{load}
use Rattle.method_flow.specs.Costs.{IsOwnCost}
use Rattle.method_flow.specs.declared.timing.Timing.{Timing}
use Rattle.bound_rules.specs.Fitting.{RegionFits, loads_of}
use Rattle.bound_rules.specs.Numbers.{Numbers, IsInside, IsLoops, charged_loops, no_fees, is_in_charged}
use Rattle.bound_report.specs.declared.counts.NodeCount.{NodeCount}
use Rattle.bound_report.specs.declared.counts.MethodCounts.{MethodCounts}

-- ---- what is asked of a method

-- The graph of a method, the costs of its nodes with what they call, its loops with what their entries are charged, and its number: that without loads where
-- all that may run while it does fits the cache together, and else that with the loads of loops. And at which nodes a call pays loads.
pub data Asks (P : Program) (t : Timing) (bound_of : BoundOf) (N : Numbers) (m : ℕ)
    : Digraph → (costs : List ℕ) → List BoundedLoop → (pays : ℕ → Bool) → (number : Option ℕ) → Type 0 where
  inside : RegionFits P t m → (h : IsInside P t bound_of N m)
      → Asks P t bound_of N m h.flow.graph h.costs (charged_loops h.flow (no_fees h.flow)) (λ u. false) (N.inside m)
  loops : ¬ RegionFits P t m → (h : IsLoops P t bound_of N m)
      → Asks P t bound_of N m h.flow.graph h.costs (charged_loops h.flow h.fees) (λ u. not (is_in_charged h.flow.nest h.flags u)) (N.loops m)

-- what a method's number with all loads has beside the one that is asked of it
pub data IsMore (P : Program) (t : Timing) (m : ℕ) : ℕ → Type 0 where
  fits : (together : RegionFits P t m) → IsMore P t m (loads_of together)
  exceeds : ¬ RegionFits P t m → IsMore P t m (load P t.read m)

-- ---- a node

-- what a call of x by m pays for loads: those that x has beside its number, and that of m when control comes back to it
abbrev pub IsLoads : Program → Timing → (caller target : ℕ) → (pays : Bool) → ℕ → Type 0
IsLoads P t m x false loads = loads ≡ 0
IsLoads P t m x true loads = (more : ℕ) × IsMore P t x more × (loads ≡ more + load P t.read m)

-- the instruction that begins at the node may run the method
abbrev pub IsTargetAt : Program → (method : ℕ) → Node → (target : ℕ) → Type 0
IsTargetAt P m (At p) x = IsStartOf P m p × IsTarget P m p x
IsTargetAt P m (RaiseAt p) x = ⊥

-- what is added to the node's own cost: nothing, or the number of the method that is called there, with loads
abbrev pub IsAdded : Program → Timing → (asked : ℕ → Option ℕ) → (method : ℕ) → Node → (pays : Bool) → (target : Option ℕ) → (loads added : ℕ) → Type 0
IsAdded P t asked m u pays None loads added = (loads ≡ 0) × (added ≡ 0)
IsAdded P t asked m u pays (Some x) loads added = IsTargetAt P m u x × IsLoads P t m x pays loads × ((n : ℕ) × (asked x ≡ Some n) × (added ≡ n + loads))

-- the counts of a node of the walk
pub record IsNodeCount (P : Program) (t : Timing) (asked : ℕ → Option ℕ) (m : ℕ) (costs : List ℕ) (pays : ℕ → Bool) (walk : List ℕ)
    (c : NodeCount) : Type 0 where
  pub node : Node
  pub is_node : c.node ≡ number_of node
  pub visits : c.visits ≡ count_by (λ u. u == c.node) walk
  pub own : IsOwnCost P t m node c.own
  pub added : ℕ
  pub is_added : IsAdded P t asked m node (pays c.node) c.target c.loads added
  pub costs_are : slice_index costs c.node ≡ c.own + added

-- ---- a method

abbrev pub nodes_of : List NodeCount → List ℕ
nodes_of cs = map (λ c. c.node) cs

-- These are the counts of one walk of the method that keeps the bounds of loops and costs as much as is asked of the method.
pub record AreCountsOf (P : Program) (t : Timing) (bound_of : BoundOf) (N : Numbers) (asked : ℕ → Option ℕ) (k : MethodCounts) : Type 0 where
  pub graph : Digraph
  pub costs : List ℕ
  pub loops : List BoundedLoop
  pub pays : ℕ → Bool
  pub number : Option ℕ
  pub asks : Asks P t bound_of N k.method graph costs loops pays number
  pub value : ℕ
  pub number_is : number ≡ Some value
  pub asked_is : asked k.method ≡ Some value
  pub walk : List ℕ
  pub bounded : IsBoundedWalk graph loops walk
  pub attained : cost_of costs loops walk ≡ value
  pub each : All (IsNodeCount P t asked k.method costs pays walk) k.nodes.items
  pub rising : IsStrictlyIncreasing (nodes_of k.nodes.items)
  pub visited : All (Contains (nodes_of k.nodes.items)) walk
  pub entered : k.entered.items ≡ map (λ l. entries l.members walk) loops
  pub fees : k.fees.items ≡ map (λ l. l.load) loops
