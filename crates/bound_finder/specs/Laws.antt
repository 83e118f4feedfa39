-- What follows for each program of the table.
use Rattle.std.specs.Prelude.{◌≡◌, ◌*◌, ◌<◌, ℕ, Bool, false, List, map, All, Contains, Some, IsTrue, ◌↔◌, slice_get, slice_index_or}
use Rattle.loop_nest.specs.Digraph.{Digraph}
use Rattle.bytecode_model.specs.Program.{Program}
use Rattle.method_flow.specs.Flow.{Flow, Coded, IsCoded, IsFlowOf}
use Rattle.method_flow.specs.Graphs.{IsGraphBy, IsLiveGraph}
use Rattle.method_flow.specs.Keeping.{BoundOf}
use Rattle.method_flow.specs.Regions.{load}
use Rattle.method_flow.specs.declared.timing.Timing.{Timing}
use Rattle.flow_graph.specs.Where.{IsEdgeWhere}
use Rattle.node_costs.specs.Costs.{AreOwnCosts}
use Rattle.bound_rules.specs.declared.faults.BoundRefusal.{BoundRefusal}
use Rattle.bound_rules.specs.declared.faults.BoundRefusal.TheVariants.{NoMemory}
use Rattle.bound_rules.specs.Numbers.{Numbers, AreNumbers}
use Rattle.compact_walks.specs.Limited.{cycles_limit}
use Rattle.bound_finder.specs.declared.known.Known.{Known}
use Rattle.bound_finder.specs.declared.telling.Told.{Told}
use Rattle.bound_finder.specs.declared.shape.Shape.{Shape}
use Rattle.bound_finder.specs.Known.{known_at, CalleesAreKnown, IsKnownOf, Agrees, ExceedsBeside}
use Rattle.bound_finder.specs.Telling.{AreToldBy, AreToldAdded}
use Rattle.bound_finder.specs.Prepared.{IsShapeOf, IsLeftBy, IsUnbounded, AreLimitedCosts, adds_by}
use Rattle.bound_finder.specs.Ready.{AreReady}
use Rattle.call_regions.specs.Calling.{IsTargetsFirst}

-- the graph where just those calls go on of which a target can end is the live graph
abbrev pub GraphsWhereTargetsEnd : Type 0
GraphsWhereTargetsEnd =
    (P : Program) (t : Timing) (f : Flow) (m : ℕ) (k : Coded) (table : List Known) (back : ℕ) (told : List Told) (g : Digraph) → IsFlowOf P f
    → slice_get f.methods m ≡ Some k → IsCoded k
    → CalleesAreKnown P t table m → AreToldBy table back f k.calls told → IsGraphBy (IsEdgeWhere P m k.calls (map (λ s. s.goes_on) told)) P m g
    → IsLiveGraph P m g

-- the costs of a method's nodes: their own, what is told of its calls, and both together, where a call at the flagged ones costs nothing for loads; the
-- table has what is known of methods
pub record ToldCosts : Type 0 where
  pub program : Program
  pub timing : Timing
  pub flow : Flow
  pub table : List Known
  pub method : ℕ
  pub coded : Coded
  pub graph : Digraph
  pub own : List ℕ
  pub told : List Told
  pub without : List Bool
  pub costs : List ℕ

-- these belong together, on the live graph
pub record AreToldCosts (x : ToldCosts) : Type 0 where
  pub flow : IsFlowOf x.program x.flow
  pub at : slice_get x.flow.methods x.method ≡ Some x.coded
  pub coded : IsCoded x.coded
  pub graph : IsLiveGraph x.program x.method x.graph
  pub own : AreOwnCosts x.program x.timing x.method x.coded.code x.own
  pub small : All (λ c. c < cycles_limit) x.own
  pub told : AreToldBy x.table (load x.program x.timing.read x.method) x.flow x.coded.calls x.told
  pub added : AreToldAdded x.own x.coded.calls x.told x.without x.costs

-- what a call adds at a place
abbrev pub added_by : ToldCosts → (place : ℕ) → ℕ
added_by x q = adds_by x.program x.timing x.table x.method (slice_index_or x.without (2 * q) false) q

-- costs with what is told of calls are the costs of the nodes of the live graph
abbrev pub CostsAreLimited : Type 0
CostsAreLimited = (x : ToldCosts) → AreToldCosts x → AreLimitedCosts x.program x.timing x.method (added_by x) x.graph x.costs

-- where the method is one of an order for which all is ready, its live graph has a nest, and each loop a bound
abbrev pub ReadyHasShape : Type 0
ReadyHasShape =
    (P : Program) (t : Timing) (bound_of : BoundOf) (m : ℕ) (order : List ℕ) (g : Digraph) (s : Shape) (fault : BoundRefusal)
    → AreReady P bound_of order → Contains order m → IsLiveGraph P m g
    → (IsLeftBy g m fault → fault ≡ NoMemory)
    × (IsShapeOf g s → IsUnbounded bound_of m s fault → fault ≡ NoMemory)

-- ---- all methods

-- what is known of all methods of an order, targets first, agrees with each family of numbers, and says of which methods one is too large
abbrev pub AllAgree : Type 0
AllAgree =
    (P : Program) (t : Timing) (bound_of : BoundOf) (root : ℕ) (order : List ℕ) (table : List Known) (N : Numbers) → IsTargetsFirst P root order
    → ((m : ℕ) → Contains order m → IsKnownOf P t bound_of table m (known_at table m)) → AreNumbers P t bound_of root N
    → (m : ℕ) → Contains order m → Agrees P t N m (known_at table m) × (IsTrue (known_at table m).too_large ↔ ExceedsBeside P t bound_of N m)

-- the numbers that are known, as a family
abbrev pub numbers_by : List Known → Numbers
numbers_by table = record { inside = λ m. (known_at table m).asked; loops = λ m. (known_at table m).asked; full = λ m. (known_at table m).full }

-- where none is too large, these are the numbers of the methods
abbrev pub KnownAreNumbers : Type 0
KnownAreNumbers =
    (P : Program) (t : Timing) (bound_of : BoundOf) (root : ℕ) (order : List ℕ) (table : List Known) → IsTargetsFirst P root order
    → ((m : ℕ) → Contains order m → IsKnownOf P t bound_of table m (known_at table m)) → ((m : ℕ) → Contains order m → (known_at table m).too_large ≡ false)
    → AreNumbers P t bound_of root (numbers_by table)
