-- Why no bound of a method is given, apart from numbers past 64 bits, once the method is known that is asked for.
use Rattle.std.specs.Prelude.{◌≡◌, ◌≢◌, ℕ, ◌<◌, List, [], Option, Some, None, Contains, MatchOption}
use Rattle.loop_nest.specs.Digraph.{IsBefore}
use Rattle.section_check.specs.Least.{IsLeast}
use Rattle.bytecode_model.specs.Program.{Program}
use Rattle.method_flow.specs.Keeping.{BoundOf}
use Rattle.method_flow.specs.Recursion.{IsRecursion}
use Rattle.bound_rules.specs.Bounding.{HasNoRecursion, IsLeftWith, IsFirstIrreducible, AreReducible, IsFirstLacking}
use Rattle.bound_rules.specs.declared.faults.BoundRefusal.{BoundRefusal}
use Rattle.bound_rules.specs.declared.faults.BoundRefusal.TheVariants.{NoMethod, Recursion, Irreducible, MissingBound, TooLarge, NoMemory}
use Rattle.bound_causes.specs.Headers.{HeadsUnbounded}

-- the cause lies in the graphs of methods, or in the lines that bound their loops
abbrev pub IsLoopCause : Program → BoundOf → (root : ℕ) → BoundRefusal → Type 0
IsLoopCause P bound_of root NoMethod = ⊥
IsLoopCause P bound_of root (Recursion cycle) = ⊥
IsLoopCause P bound_of root (Irreducible m nodes) = IsFirstIrreducible P root m nodes.items
IsLoopCause P bound_of root (MissingBound m p) = AreReducible P root × IsFirstLacking P bound_of root m p
IsLoopCause P bound_of root (TooLarge m) = ⊥
IsLoopCause P bound_of root NoMemory = Unit {0}

-- the cause lies in the calls
abbrev pub IsCallCause : Program → (root : ℕ) → BoundRefusal → Type 0
IsCallCause P root NoMethod = ⊥
IsCallCause P root (Recursion cycle) = IsRecursion P root cycle.items
IsCallCause P root (Irreducible m nodes) = ⊥
IsCallCause P root (MissingBound m p) = ⊥
IsCallCause P root (TooLarge m) = ⊥
IsCallCause P root NoMemory = Unit {0}

-- the cause lies in the calls or, where they give none, in the loops
abbrev pub IsRootCause : Program → BoundOf → (root : ℕ) → BoundRefusal → Type 0
IsRootCause P bound_of root NoMethod = ⊥
IsRootCause P bound_of root (Recursion cycle) = IsRecursion P root cycle.items
IsRootCause P bound_of root (Irreducible m nodes) = HasNoRecursion P root × IsFirstIrreducible P root m nodes.items
IsRootCause P bound_of root (MissingBound m p) = HasNoRecursion P root × AreReducible P root × IsFirstLacking P bound_of root m p
IsRootCause P bound_of root (TooLarge m) = ⊥
IsRootCause P bound_of root NoMemory = Unit {0}

-- ---- in one method

-- each cycle of the method's graph is a loop with one entry, and this is the least place of a header for which no bound is given; or each has one
abbrev pub IsUnboundedIn : Program → BoundOf → (method : ℕ) → (place : Option ℕ) → Type 0
IsUnboundedIn P bound_of m place = IsLeftWith P m [] × IsLeast (HeadsUnbounded P bound_of m) place

-- the reduction of the method's graph leaves nodes
abbrev pub IsIrreducibleBy : Program → (method : ℕ) → BoundRefusal → Type 0
IsIrreducibleBy P m NoMethod = ⊥
IsIrreducibleBy P m (Recursion cycle) = ⊥
IsIrreducibleBy P m (Irreducible n nodes) = (n ≡ m) × IsLeftWith P m nodes.items × (nodes.items ≢ [])
IsIrreducibleBy P m (MissingBound n p) = ⊥
IsIrreducibleBy P m (TooLarge n) = ⊥
IsIrreducibleBy P m NoMemory = Unit {0}

-- ---- among some methods

-- the loop at this place of this method has no bound, and each loop of a lesser method has one, and each at a lesser place of this one
pub record IsLeastUnbounded (P : Program) (bound_of : BoundOf) (methods : List ℕ) (found : ℕ × ℕ) : Type 0 where
  pub among : Contains methods found.0
  pub heads : HeadsUnbounded P bound_of found.0 found.1
  pub first : (m p : ℕ) → Contains methods m → IsBefore (m, p) found → ¬ HeadsUnbounded P bound_of m p

-- each of the methods is reducible, and this is the first loop without a bound; or each loop has one
pub record AreSearched (P : Program) (bound_of : BoundOf) (methods : List ℕ) (found : Option (ℕ × ℕ)) : Type 0 where
  pub reducible : (m : ℕ) → Contains methods m → IsLeftWith P m []
  pub least : MatchOption found ((m p : ℕ) → Contains methods m → ¬ HeadsUnbounded P bound_of m p) (IsLeastUnbounded P bound_of methods)

-- the reduction of this method's graph leaves these nodes, and that of each lesser one none
pub record IsLeastIrreducible (P : Program) (methods : List ℕ) (m : ℕ) (nodes : List ℕ) : Type 0 where
  pub among : Contains methods m
  pub left : IsLeftWith P m nodes
  pub some : nodes ≢ []
  pub first : (x : ℕ) → Contains methods x → x < m → IsLeftWith P x []

abbrev pub IsIrreducibleAmong : Program → (methods : List ℕ) → BoundRefusal → Type 0
IsIrreducibleAmong P ms NoMethod = ⊥
IsIrreducibleAmong P ms (Recursion cycle) = ⊥
IsIrreducibleAmong P ms (Irreducible m nodes) = IsLeastIrreducible P ms m nodes.items
IsIrreducibleAmong P ms (MissingBound m p) = ⊥
IsIrreducibleAmong P ms (TooLarge m) = ⊥
IsIrreducibleAmong P ms NoMemory = Unit {0}

-- what was found before, or else the loop at the place of the method, where there is one
abbrev pub found_or : Option (ℕ × ℕ) → (method : ℕ) → Option ℕ → Option (ℕ × ℕ)
found_or None m None = None
found_or None m (Some p) = Some (m, p)
found_or (Some x) m place = Some x
