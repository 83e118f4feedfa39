-- Why no bound of a method is given: cause by cause, each over all that may run while the method does, the least method first.
use Rattle.std.specs.Prelude.{◌≡◌, ◌≢◌, ℕ, ◌*◌, ◌^◌, ◌<◌, ◌≤◌, List, [], map, Some, None, IsSome}
use Rattle.loop_nest.specs.Digraph.{Digraph, IsBefore}
use Rattle.loop_nest.specs.Walks.{IsHeader}
use Rattle.loop_nest.specs.Reduction.{Leaves}
use Rattle.section_check.specs.Least.{IsLeast}
use Rattle.path_solver.specs.Longest.{IterationsExceed}
use Rattle.bytecode_model.specs.Program.{Program, body_of}
use Rattle.method_flow.specs.Graphs.{IsGraphOf}
use Rattle.method_flow.specs.Compact.{IsCompact}
use Rattle.method_flow.specs.Keeping.{BoundOf}
use Rattle.method_flow.specs.Regions.{IsWithin}
use Rattle.method_flow.specs.Recursion.{IsRecursion}
use Rattle.method_flow.specs.declared.timing.Timing.{Timing}
use Rattle.method_flow.specs.Costs.{IsPrintedOf}
use Rattle.bound_rules.specs.declared.faults.BoundRefusal.{BoundRefusal}
use Rattle.bound_rules.specs.declared.faults.BoundRefusal.TheVariants.{NoMethod, Recursion, Irreducible, MissingBound, TooLarge, NoMemory}
use Rattle.bound_rules.specs.Fitting.{RegionFits}
use Rattle.bound_rules.specs.Numbers.{Numbers, charged_loops, no_fees, IsInside, IsLoops, AreNumbers}

-- the method is asked for, which has code and isn't the one that starts the program
pub record IsAsked (P : Program) (named : ℕ → Type 0) (root : ℕ) : Type 0 where
  pub coded : IsSome (body_of P root)
  pub not_boot : root ≢ P.boot
  pub is_named : named root

-- ---- recursion

-- no method that may run while the root does may call itself, by however many calls
abbrev pub HasNoRecursion : Program → (root : ℕ) → Type 0
HasNoRecursion P root = (cycle : List ℕ) → ¬ IsRecursion P root cycle

-- ---- loops with several entries

-- the reduction of a method's graph leaves these nodes beside the first instruction
pub record IsLeftWith (P : Program) (m : ℕ) (nodes : List ℕ) : Type 0 where
  pub graph : Digraph
  pub is_graph : IsGraphOf P m graph
  pub compact : Digraph
  pub node : ℕ → ℕ
  pub is_compact : IsCompact graph compact node
  pub left : List ℕ
  pub leaves : Leaves compact left
  pub nodes_are : nodes ≡ map node left

-- m is the least of them whose reduction leaves nodes, and these are they
pub record IsFirstIrreducible (P : Program) (root m : ℕ) (nodes : List ℕ) : Type 0 where
  pub within : IsWithin P root m
  pub left : IsLeftWith P m nodes
  pub some : nodes ≢ []
  pub first : (x : ℕ) → x < m → IsWithin P root x → IsLeftWith P x []

abbrev pub AreReducible : Program → (root : ℕ) → Type 0
AreReducible P root = (m : ℕ) → IsWithin P root m → IsLeftWith P m []

-- ---- loops without a bound

-- the instruction at place p heads a loop of the method's graph, and no bound is given for it
pub record LacksLine (P : Program) (bound_of : BoundOf) (root m p : ℕ) : Type 0 where
  pub within : IsWithin P root m
  pub graph : Digraph
  pub is_graph : IsGraphOf P m graph
  pub header : IsHeader graph (2 * p)
  pub none : bound_of m p ≡ None

-- the first such loop, by method and place
pub record IsFirstLacking (P : Program) (bound_of : BoundOf) (root m p : ℕ) : Type 0 where
  pub lacks : LacksLine P bound_of root m p
  pub first : (x q : ℕ) → IsBefore (x, q) (m, p) → ¬ LacksLine P bound_of root x q

abbrev pub HaveLines : Program → BoundOf → (root : ℕ) → Type 0
HaveLines P bound_of root = (m p : ℕ) → ¬ LacksLine P bound_of root m p

-- ---- numbers past 64 bits

-- Of a method, by the numbers: its number with all loads is too large; for the root, what is printed is; or one iteration of each loop that holds a
-- node from which an exit is reached are so together, under the costs of the number that is asked of the method.
pub data ExceedsSize (P : Program) (t : Timing) (bound_of : BoundOf) (root : ℕ) (N : Numbers) (m : ℕ) : Type 0 where
  full : (n : ℕ) → N.full m ≡ Some n → 2 ^ 64 ≤ n → ExceedsSize P t bound_of root N m
  printed : m ≡ root → (n : ℕ) → IsPrintedOf P t (N.full root) (Some n) → 2 ^ 64 ≤ n → ExceedsSize P t bound_of root N m
  inside : RegionFits P t m → (h : IsInside P t bound_of N m) → IterationsExceed h.flow.graph h.costs (charged_loops h.flow (no_fees h.flow))
      → ExceedsSize P t bound_of root N m
  loops : ¬ RegionFits P t m → (h : IsLoops P t bound_of N m) → IterationsExceed h.flow.graph h.costs (charged_loops h.flow h.fees)
      → ExceedsSize P t bound_of root N m

-- of a method that may run while the root does
abbrev pub BoundIsTooLarge : Program → Timing → BoundOf → (root : ℕ) → Numbers → (m : ℕ) → Type 0
BoundIsTooLarge P t bound_of root N m = IsWithin P root m × ExceedsSize P t bound_of root N m

-- m is the least of them, whatever numbers are those of the methods; there is one family of them at most
abbrev pub IsFirstTooLarge : Program → Timing → BoundOf → (root m : ℕ) → Type 0
IsFirstTooLarge P t bound_of root m = (N : Numbers) → AreNumbers P t bound_of root N → IsLeast (BoundIsTooLarge P t bound_of root N) (Some m)

abbrev pub KeepSize : Program → Timing → BoundOf → (root : ℕ) → Type 0
KeepSize P t bound_of root = (N : Numbers) → AreNumbers P t bound_of root N → (m : ℕ) → ¬ BoundIsTooLarge P t bound_of root N m

-- ---- the refusal

-- What is right to answer, where the method is asked for by `named`: a cause stands only where those above it don't. Of want of memory nothing is said.
abbrev pub IsCause : Program → Timing → BoundOf → (named : ℕ → Type 0) → BoundRefusal → Type 0
IsCause P t bound_of named NoMethod = (root : ℕ) → ¬ IsAsked P named root
IsCause P t bound_of named (Recursion cycle) = (root : ℕ) × IsAsked P named root × IsRecursion P root cycle.items
IsCause P t bound_of named (Irreducible m nodes) = (root : ℕ) × IsAsked P named root × HasNoRecursion P root × IsFirstIrreducible P root m nodes.items
IsCause P t bound_of named (MissingBound m p) = (root : ℕ) × IsAsked P named root × HasNoRecursion P root × AreReducible P root
    × IsFirstLacking P bound_of root m p
IsCause P t bound_of named (TooLarge m) =
    (root : ℕ) × IsAsked P named root × HasNoRecursion P root × AreReducible P root × HaveLines P bound_of root × IsFirstTooLarge P t bound_of root m
IsCause P t bound_of named NoMemory = Unit {0}

-- there is no cause to refuse a bound of the method
pub record HasNoCause (P : Program) (t : Timing) (bound_of : BoundOf) (root : ℕ) : Type 0 where
  pub calls : HasNoRecursion P root
  pub reducible : AreReducible P root
  pub lines : HaveLines P bound_of root
  pub size : KeepSize P t bound_of root
