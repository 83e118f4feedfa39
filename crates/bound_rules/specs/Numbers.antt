-- The numbers of methods: what a run of each takes at most, by the walks of its graph.
use Rattle.std.specs.Prelude.{◌≡◌, ◌↔◌, ℕ, ◌+◌, ◌*◌, Bool, true, false, ◌&&◌, if◌then◌else◌, List, [], ◌∷◌, length, map, slice_index, Contains, All, Option}
use Rattle.std.specs.Prelude.{Some, None, IsSome, option_map}
use Rattle.loop_nest.specs.Digraph.{Digraph}
use Rattle.loop_nest.specs.Nest.{NaturalLoop, headers_of, IsNest, IsAround}
use Rattle.section_check.specs.Bounded.{BoundedLoop, holds, IsGreatest}
use Rattle.section_check.specs.Placing.{IsEntryAt}
use Rattle.path_solver.specs.Reaching.{ReachesExit, IsFlagged}
use Rattle.path_solver.specs.Longest.{bounded_loops}
use Rattle.bytecode_model.specs.Program.{Program}
use Rattle.method_flow.specs.Calls.{IsCall, IsStartOf}
use Rattle.method_flow.specs.Live.{IsLiveEdge}
use Rattle.method_flow.specs.Graphs.{IsLiveGraph}
use Rattle.method_flow.specs.Keeping.{BoundOf}
use Rattle.method_flow.specs.Costs.{IsPrintedOf}
use Rattle.method_flow.specs.Regions.{IsWithin, load}
use Rattle.method_flow.specs.declared.timing.Timing.{Timing}
use Rattle.bound_rules.specs.Costs.{added, AreCosts}
use Rattle.bound_rules.specs.Fitting.{RegionFits, LoopFits, loads_of, header_bound, header_bounds}

-- Of each method: its number without loads; with the loads of its charged loops, and of calls outside them; with all loads. One that can't end has none.
pub record Numbers : Type 0 where
  pub inside : ℕ → Option ℕ
  pub loops : ℕ → Option ℕ
  pub full : ℕ → Option ℕ

-- ---- greatest walks

-- what the greatest walk costs that keeps the bounds, or none where no exit is reached
abbrev pub IsGreatestValue : Digraph → List ℕ → List BoundedLoop → Option ℕ → Type 0
IsGreatestValue g costs loops None = ¬ ReachesExit g 0
IsGreatestValue g costs loops (Some n) = IsGreatest g costs loops n

-- the live graph of a method, and its loops, each of which has a bound
pub record LiveNest (P : Program) (bound_of : BoundOf) (m : ℕ) : Type 0 where
  pub graph : Digraph
  pub is_live : IsLiveGraph P m graph
  pub nest : List NaturalLoop
  pub is_nest : IsNest graph nest
  pub bounded : All (λ l. IsSome (header_bound bound_of m l.header)) nest

-- its loops with their bounds, and with what an entry of each is charged
abbrev pub charged_loops : {P : Program} {bound_of : BoundOf} {m : ℕ} → LiveNest P bound_of m → (fees : List ℕ) → List BoundedLoop
charged_loops {P} {bound_of} {m} flow fees = bounded_loops flow.nest (header_bounds bound_of m (headers_of flow.nest)) fees

-- without any charge
abbrev pub no_fees : {P : Program} {bound_of : BoundOf} {m : ℕ} → LiveNest P bound_of m → List ℕ
no_fees flow = map (λ l. 0) flow.nest

-- ---- charged loops

-- an invoke is among the nodes
abbrev pub HasCall : Program → (method : ℕ) → (nodes : List ℕ) → Type 0
HasCall P m nodes = (p : ℕ) × Contains nodes (2 * p) × IsStartOf P m p × IsCall P m p

-- Loop i, which is l, is charged, by the flags of the loops around it: an invoke is among its members, the methods that may run there fit the cache
-- together, and no loop around it is charged.
pub record IsCharged (P : Program) (t : Timing) (m : ℕ) (nest : List NaturalLoop) (flags : List Bool) (i : ℕ) (l : NaturalLoop) : Type 0 where
  pub call : HasCall P m l.members
  pub fits : LoopFits P t m l.members
  pub outermost : (k : ℕ) → IsAround nest i k → ¬ IsFlagged flags k

-- exactly the charged loops are flagged
pub record AreCharged (P : Program) (t : Timing) (m : ℕ) (nest : List NaturalLoop) (flags : List Bool) : Type 0 where
  pub long : length flags ≡ length nest
  pub each : (i : ℕ) (l : NaturalLoop) → IsEntryAt nest i l → IsFlagged flags i ↔ IsCharged P t m nest flags i l

-- what an entry of each loop is charged: the loads of the methods that may run in it where it is charged, and else nothing
pub record AreLoads (P : Program) (t : Timing) (m : ℕ) (nest : List NaturalLoop) (flags : List Bool) (fees : List ℕ) : Type 0 where
  pub long : length fees ≡ length nest
  pub charged : (i : ℕ) (l : NaturalLoop) → IsEntryAt nest i l → IsFlagged flags i → (fits : LoopFits P t m l.members) → slice_index fees i ≡ loads_of fits
  pub others : (i : ℕ) → ¬ IsFlagged flags i → slice_index fees i ≡ 0

-- a charged loop has the node
abbrev pub is_in_charged : List NaturalLoop → (flags : List Bool) → (node : ℕ) → Bool
is_in_charged [] flags u = false
is_in_charged (l ∷ ls) [] u = false
is_in_charged (l ∷ ls) (flag ∷ flags) u = if flag && holds l.members u then true else is_in_charged ls flags u

-- what a method adds to a call outside of charged loops: its number with all loads, and the load of the calling one when control comes back to it
abbrev pub full_and_back : Program → Timing → Numbers → (caller target : ℕ) → Option ℕ
full_and_back P t N m x = option_map (λ n. n + load P t.read m) (N.full x)

-- what calls add, where loads are charged to loops: in a charged loop nothing for loads
abbrev pub loops_adds : Program → Timing → Numbers → (method : ℕ) → List NaturalLoop → (flags : List Bool) → (place : ℕ) → ℕ
loops_adds P t N m nest flags p = if is_in_charged nest flags (2 * p) then added P m p N.inside else added P m p (full_and_back P t N m)

-- ---- the numbers

-- the number without loads
pub record IsInside (P : Program) (t : Timing) (bound_of : BoundOf) (N : Numbers) (m : ℕ) : Type 0 where
  pub flow : LiveNest P bound_of m
  pub costs : List ℕ
  pub are_costs : AreCosts P t m (IsLiveEdge P m) (λ p. added P m p N.inside) flow.graph costs
  pub value : IsGreatestValue flow.graph costs (charged_loops flow (no_fees flow)) (N.inside m)

-- the number with the loads of charged loops, and of calls outside them
pub record IsLoops (P : Program) (t : Timing) (bound_of : BoundOf) (N : Numbers) (m : ℕ) : Type 0 where
  pub flow : LiveNest P bound_of m
  pub flags : List Bool
  pub charged : AreCharged P t m flow.nest flags
  pub fees : List ℕ
  pub are_fees : AreLoads P t m flow.nest flags fees
  pub costs : List ℕ
  pub are_costs : AreCosts P t m (IsLiveEdge P m) (loops_adds P t N m flow.nest flags) flow.graph costs
  pub value : IsGreatestValue flow.graph costs (charged_loops flow fees) (N.loops m)

-- The number with all loads: where the methods that may run fit the cache together, each is loaded once; else the method itself is loaded beside what
-- its loops are charged.
pub data IsFull (P : Program) (t : Timing) (N : Numbers) (m : ℕ) : Type 0 where
  fits : (together : RegionFits P t m) → N.full m ≡ option_map (λ n. n + loads_of together) (N.inside m) → IsFull P t N m
  exceeds : ¬ RegionFits P t m → N.full m ≡ option_map (λ n. n + load P t.read m) (N.loops m) → IsFull P t N m

-- These are the numbers of a method and of all that may run while it does. Of each method one of the first two is asked: that without loads where the
-- methods that may run while it does fit the cache together, and else that with the loads of loops. No other is used.
pub record AreNumbers (P : Program) (t : Timing) (bound_of : BoundOf) (root : ℕ) (N : Numbers) : Type 0 where
  pub inside : (m : ℕ) → IsWithin P root m → RegionFits P t m → IsInside P t bound_of N m
  pub loops : (m : ℕ) → IsWithin P root m → ¬ RegionFits P t m → IsLoops P t bound_of N m
  pub full : (m : ℕ) → IsWithin P root m → IsFull P t N m

-- ---- what is printed

-- what is printed of a method, by the numbers
pub record IsPrinted (P : Program) (t : Timing) (bound_of : BoundOf) (root : ℕ) (printed : Option ℕ) : Type 0 where
  pub numbers : Numbers
  pub are : AreNumbers P t bound_of root numbers
  pub of_root : IsPrintedOf P t (numbers.full root) printed
