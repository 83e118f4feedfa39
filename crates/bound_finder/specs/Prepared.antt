-- What the walks of a method are asked on: its live graph on nodes without gaps, its loops with their bounds and charges, and costs.
use Rattle.std.specs.Prelude.{◌≡◌, ◌≢◌, ◌↔◌, ◌⊎◌, ℕ, ◌+◌, ◌*◌, ◌/◌, ◌<◌, Bool, true, false, List, [], length, map, All, Contains, Option, Some, None, IsSome}
use Rattle.std.specs.Prelude.{IsTrue, unwrap_or, slice_get, slice_index, slice_index_or}
use Rattle.loop_nest.specs.Digraph.{Digraph}
use Rattle.loop_nest.specs.Reduction.{IsReducible, Leaves}
use Rattle.loop_nest.specs.Nest.{NaturalLoop, IsNest, headers_of}
use Rattle.section_check.specs.Placing.{IsEntryAt}
use Rattle.path_solver.specs.Reaching.{IsFlagged}
use Rattle.path_solver.specs.Regions.{charged, AreRegionsApart}
use Rattle.bytecode_model.specs.Program.{Program}
use Rattle.method_flow.specs.declared.flow.Call.{Call}
use Rattle.method_flow.specs.Flow.{Coded, IsCoded, IsCodedOf}
use Rattle.node_costs.specs.Costs.{AreOwnCosts}
use Rattle.method_flow.specs.Nodes.{Node, number_of, IsReached}
use Rattle.flow_graph.specs.Laws.{IsGraphWhere}
use Rattle.method_flow.specs.Calls.{targets_of}
use Rattle.method_flow.specs.Compact.{IsCompact}
use Rattle.method_flow.specs.Costs.{IsOwnCost}
use Rattle.method_flow.specs.Graphs.{IsLiveGraph}
use Rattle.method_flow.specs.Keeping.{BoundOf}
use Rattle.method_flow.specs.Live.{IsLiveEdge}
use Rattle.method_flow.specs.Regions.{load}
use Rattle.method_flow.specs.declared.timing.Timing.{Timing}
use Rattle.bound_rules.specs.declared.faults.BoundRefusal.{BoundRefusal}
use Rattle.bound_rules.specs.declared.faults.BoundRefusal.TheVariants.{Irreducible, MissingBound, NoMemory}
use Rattle.bound_rules.specs.Costs.{added_at, greatest_of}
use Rattle.bound_rules.specs.Fitting.{RegionFits, LoopFits, loads_of, header_bound, header_bounds}
use Rattle.bound_rules.specs.Numbers.{HasCall, AreCharged, AreLoads, is_in_charged}
use Rattle.compact_walks.specs.Limited.{cycles_limit, limited}
use Rattle.compact_walks.specs.Moving.{moved_nest}
use Rattle.bound_finder.specs.declared.known.Known.{Known}
use Rattle.bound_finder.specs.declared.charges.Charges.{Charges}
use Rattle.bound_finder.specs.declared.shape.Shape.{Shape}
use Rattle.bound_finder.specs.declared.prepared.Prepared.{Prepared}
use Rattle.bound_finder.specs.declared.telling.Told.{Told}
use Rattle.bound_finder.specs.Known.{BoundSetting, known_at}
use Rattle.bound_finder.specs.Telling.{with_back, AreToldAdded, IsSmallTold}

-- ---- graphs

abbrev pub node_of : Shape → ℕ → ℕ
node_of s u = slice_index s.nodes u

-- the loops of the other graph
abbrev pub nest_of : Shape → List NaturalLoop
nest_of s = moved_nest (node_of s) s.nest

-- the compact graph of another one, with its nest
pub record IsShapeOf (g : Digraph) (s : Shape) : Type 0 where
  pub compact : IsCompact g s.graph (node_of s)
  pub long : length s.nodes ≡ s.graph.nodes
  pub within : All (λ x. x < s.size) s.nodes
  pub size : s.size ≡ g.nodes
  pub reducible : IsReducible s.graph
  pub nest : IsNest s.graph s.nest

-- the refusal names these nodes of a compact graph by their other numbers; of want of memory nothing is said
abbrev pub IsLeftAs : (method : ℕ) → (node : ℕ → ℕ) → (left : List ℕ) → BoundRefusal → Type 0
IsLeftAs m node left (Irreducible x nodes) = (x ≡ m) × (nodes.items ≡ map node left)
IsLeftAs m node left NoMemory = Unit {0}
IsLeftAs m node left fault = ⊥

-- it has none, since the reduction leaves these nodes; of want of memory nothing is said
abbrev pub IsLeftBy : Digraph → (method : ℕ) → BoundRefusal → Type 0
IsLeftBy g m (Irreducible x nodes) = (x ≡ m) × ((d : Digraph) × (node : ℕ → ℕ) × (left : List ℕ) × IsCompact g d node × Leaves d left × (left ≢ [])
    × (nodes.items ≡ map node left))
IsLeftBy g m NoMemory = Unit {0}
IsLeftBy g m fault = ⊥

-- ---- loops

-- each loop has its bound
pub record AreBounds (bound_of : BoundOf) (m : ℕ) (s : Shape) (bounds : List ℕ) : Type 0 where
  pub are : bounds ≡ header_bounds bound_of m (headers_of (nest_of s))
  pub bounded : All (λ l. IsSome (header_bound bound_of m l.header)) (nest_of s)

-- one has none; of want of memory nothing is said
abbrev pub IsUnbounded : BoundOf → (method : ℕ) → Shape → BoundRefusal → Type 0
IsUnbounded bound_of m s (MissingBound x p) = (x ≡ m) × ((l : NaturalLoop) × Contains (nest_of s) l × (header_bound bound_of m l.header ≡ None))
IsUnbounded bound_of m s NoMemory = Unit {0}
IsUnbounded bound_of m s fault = ⊥

-- the loads of what may run in a loop with these members, where an invoke is among them and it fits the cache together
pub data IsCandidate (P : Program) (t : Timing) (m : ℕ) (members : List ℕ) (o : Option ℕ) : Type 0 where
  joined : HasCall P m members → (together : LoopFits P t m members) → o ≡ Some (loads_of together) → IsCandidate P t m members o
  no_call : (¬ HasCall P m members) → o ≡ None → IsCandidate P t m members o
  exceeds : (¬ LoopFits P t m members) → o ≡ None → IsCandidate P t m members o

-- so of each loop
abbrev pub AreCandidates : Program → Timing → (method : ℕ) → Shape → List (Option ℕ) → Type 0
AreCandidates P t m s candidates = (i : ℕ) (l : NaturalLoop) (o : Option ℕ) → IsEntryAt (nest_of s) i l → slice_get candidates i ≡ Some o
    → IsCandidate P t m l.members o

-- a call stands at one of these nodes
abbrev pub IsCallAt : List Call → (members : List ℕ) → Type 0
IsCallAt calls members = (c : Call) × Contains calls c × Contains members (2 * c.place)

-- exactly the nodes of these calls are flagged
abbrev pub AreCallNodes : List Call → (flags : List Bool) → Type 0
AreCallNodes calls flags = (u : ℕ) → IsFlagged flags u ↔ Contains (map (λ c. 2 * c.place) calls) u

-- so are those of a method's calls, and its code is in form
abbrev pub AreCallNodesOf : BoundSetting → (method : ℕ) → (flags : List Bool) → Type 0
AreCallNodesOf set m flags = (k : Coded) → slice_get set.flow.methods m ≡ Some k → IsCoded k × AreCallNodes k.calls flags

-- none of them is none
abbrev pub AreAllSome : List (Option ℕ) → Type 0
AreAllSome found = All (λ o. IsSome o) found

-- of one of these headers no bound is found; of want of memory nothing is said
abbrev pub IsNoneOf : (method : ℕ) → (headers : List ℕ) → (found : List (Option ℕ)) → BoundRefusal → Type 0
IsNoneOf m headers found (MissingBound x p) = (x ≡ m) × ((i : ℕ) × (i < length found) × (slice_index_or found i None ≡ None) × (p ≡ slice_index headers i / 2))
IsNoneOf m headers found NoMemory = Unit {0}
IsNoneOf m headers found fault = ⊥

-- where all that may run fits the cache together no loop is charged, and else the outermost ones are that can be
pub data AreChargesOf (P : Program) (t : Timing) (m : ℕ) (s : Shape) (fits : Bool) (c : Charges) : Type 0 where
  none : fits ≡ true → ((i : ℕ) → ¬ IsFlagged c.flags.items i) → AreChargesOf P t m s fits c
  some : fits ≡ false → AreCharged P t m (nest_of s) c.flags.items → AreLoads P t m (nest_of s) c.flags.items (charged c.loads.items c.flags.items)
      → AreChargesOf P t m s fits c

-- ---- costs

-- what is added at a place: in a charged loop, or where everything fits the cache together, nothing for loads
abbrev pub adds_by : Program → Timing → List Known → (method : ℕ) → (without_loads : Bool) → (place : ℕ) → ℕ
adds_by P t table m true p = unwrap_or (greatest_of (λ x. (known_at table x).asked) (targets_of P m p)) 0
adds_by P t table m false p = unwrap_or (greatest_of (λ x. with_back (load P t.read m) (known_at table x).full) (targets_of P m p)) 0

abbrev pub is_without_at : (fits : Bool) → Shape → (flags : List Bool) → (node : ℕ) → Bool
is_without_at true s flags x = true
is_without_at false s flags x = is_in_charged (nest_of s) flags x

abbrev pub is_without : (fits : Bool) → Shape → (flags : List Bool) → (place : ℕ) → Bool
is_without fits s flags p = is_without_at fits s flags (2 * p)

-- of each number whether a call at it costs nothing for loads
pub record AreWithout (fits : Bool) (s : Shape) (flags without : List Bool) : Type 0 where
  pub long : length without ≡ s.size
  pub each : (x : ℕ) → x < s.size → slice_index_or without x false ≡ is_without_at fits s flags x

-- the costs of nodes with what their calls are told
abbrev pub AreCostsBy : (own : List ℕ) → List Call → List Told → (fits : Bool) → Shape → (flags : List Bool) → List ℕ → Type 0
AreCostsBy own calls told fits s flags costs = (without : List Bool) × AreWithout fits s flags without × AreToldAdded own calls told without costs

-- what the nodes cost, where costs past 64 bits count as 2^64
pub record AreLimitedCosts (P : Program) (t : Timing) (m : ℕ) (adds : ℕ → ℕ) (g : Digraph) (costs : List ℕ) : Type 0 where
  pub long : length costs ≡ g.nodes
  pub each : (u : Node) → IsReached (IsLiveEdge P m) u → (own : ℕ) × IsOwnCost P t m u own × (slice_index costs (number_of u) ≡ limited (own + added_at adds u))

-- ---- all together

-- the lists are as long as they must be, and no charged loop lies in another, for every program
pub record IsInShape (p : Prepared) : Type 0 where
  pub shape : (g : Digraph) × IsShapeOf g p.shape
  pub bounds : length p.bounds.items ≡ length p.shape.nest
  pub flags : length p.charges.flags.items ≡ length p.shape.nest
  pub loads : length p.charges.loads.items ≡ length p.shape.nest
  pub costs : length p.costs.items ≡ p.shape.size
  pub apart : AreRegionsApart p.shape.nest p.charges.flags.items
  pub inside : p.fits ≡ true → (i : ℕ) → ¬ IsFlagged p.charges.flags.items i

pub record IsPreparedFor (P : Program) (t : Timing) (bound_of : BoundOf) (table : List Known) (m : ℕ) (p : Prepared) : Type 0 where
  pub graph : Digraph
  pub is_live : IsLiveGraph P m graph
  pub shape : IsShapeOf graph p.shape
  pub fits : IsTrue p.fits ↔ RegionFits P t m
  pub bounds : AreBounds bound_of m p.shape p.bounds.items
  pub charges : AreChargesOf P t m p.shape p.fits p.charges
  pub costs : AreLimitedCosts P t m (λ q. adds_by P t table m (is_without p.fits p.shape p.charges.flags.items q) q) graph p.costs.items

-- it has the shape of the method's graph where its calls are told this
abbrev pub IsShapeWith : BoundSetting → (method : ℕ) → List Told → Shape → Type 0
IsShapeWith set m told s =
    (k : Coded) → slice_get set.flow.methods m ≡ Some k → (g : Digraph) × IsGraphWhere k (map (λ c. c.goes_on) told) g × (g.nodes ≡ 2 * length k.code)
    × IsShapeOf g s

-- or that graph has none
abbrev pub HasNoShapeWith : BoundSetting → (method : ℕ) → List Told → BoundRefusal → Type 0
HasNoShapeWith set m told fault =
    (fault ≡ NoMemory) ⊎ ((k : Coded) → slice_get set.flow.methods m ≡ Some k
    → (g : Digraph) × IsGraphWhere k (map (λ c. c.goes_on) told) g × IsLeftBy g m fault)

-- why it can't be said: the live graph has no nest, or a loop of it no bound; of want of memory nothing is said
abbrev pub IsNotPrepared : Program → BoundOf → (method : ℕ) → BoundRefusal → Type 0
IsNotPrepared P bound_of m fault = (fault ≡ NoMemory) ⊎ ((g : Digraph) × IsLiveGraph P m g
    × (IsLeftBy g m fault ⊎ ((s : Shape) × IsShapeOf g s × IsUnbounded bound_of m s fault)))

-- how many calls the method has
abbrev pub call_count : BoundSetting → (method : ℕ) → ℕ
call_count set m = elim (slice_get set.flow.methods m) [ None ↦ 0 | Some k ↦ length k.calls ]

-- so many calls are told, and the numbers are limited
pub record AreToldWith (set : BoundSetting) (m : ℕ) (told : List Told) : Type 0 where
  pub long : length told ≡ call_count set m
  pub small : All IsSmallTold told

-- the costs of the nodes of a method with what its calls are told, for each program of the table
pub record AreMethodCosts (set : BoundSetting) (m : ℕ) (s : Shape) (fits : Bool) (flags : List Bool) (told : List Told) (costs : List ℕ) : Type 0 where
  pub own : List ℕ
  pub owned : (P : Program) (k : Coded) → slice_get set.flow.methods m ≡ Some k → IsCodedOf P m k → AreOwnCosts P set.timing m k.code own
  pub small : All (λ c. c < cycles_limit) own
  pub sums : (k : Coded) → slice_get set.flow.methods m ≡ Some k → AreCostsBy own k.calls told fits s flags costs
