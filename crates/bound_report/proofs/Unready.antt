-- A settled method can be prepared, but for want of memory.
use Rattle.std.proofs.Common.{◌≡◌, ℕ, List, [], sym, subst, inl, inr}
use Rattle.std.specs.Prelude.{◌⊎◌}
use Rattle.loop_nest.specs.Digraph.{Digraph}
use Rattle.bytecode_model.specs.Program.{Program}
use Rattle.method_flow.specs.Graphs.{IsLiveGraph}
use Rattle.method_flow.specs.Keeping.{BoundOf}
use Rattle.method_flow.specs.declared.timing.Timing.{Timing}
use Rattle.bound_rules.specs.declared.faults.BoundRefusal.{BoundRefusal}
use Rattle.bound_rules.specs.declared.faults.BoundRefusal.TheVariants.{NoMemory}
use Rattle.bound_finder.specs.declared.known.Known.{Known}
use Rattle.bound_finder.specs.declared.shape.Shape.{Shape}
use Rattle.bound_finder.specs.Laws.{ReadyHasShape}
use Rattle.bound_finder.specs.Prepared.{IsLeftBy, IsShapeOf, IsUnbounded, IsNotPrepared}
use Rattle.bound_finder.specs.Ready.{IsWantOfMemory}
use Rattle.bound_report.specs.Settled.{IsSettledAt}

module _ (law : ReadyHasShape) (P : Program) (t : Timing) (bound_of : BoundOf) (table : List Known) (m : ℕ) (h : IsSettledAt P t bound_of table m) (fault : BoundRefusal) where
  unprepared : (g : Digraph) → IsLiveGraph P m g → IsLeftBy g m fault ⊎ ((s : Shape) × IsShapeOf g s × IsUnbounded bound_of m s fault) → fault ≡ NoMemory
  unprepared g live (inl left) = (law P t bound_of m h.order g (record { graph = g; nodes = []; nest = []; size = 0 }) fault h.ready h.among live).0 left
  unprepared g live (inr shaped) = (law P t bound_of m h.order g shaped.0 fault h.ready h.among live).1 shaped.1 shaped.2

  is_memory : IsNotPrepared P bound_of m fault → fault ≡ NoMemory
  is_memory (inl none) = none
  is_memory (inr other) = unprepared other.0 other.1 other.2

  pub only_memory : IsNotPrepared P bound_of m fault → IsWantOfMemory fault
  only_memory n = let W : BoundRefusal → Type 0 = λ e. IsWantOfMemory e in subst W (sym (is_memory n)) tt
