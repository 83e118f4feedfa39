-- What is asked of the loops of an activation that don't count to the bounds that are given for them.
use Rattle.std.specs.Prelude.{◌≡◌, ℕ, ◌*◌, ◌≤◌, List, Some}
use Rattle.bytecode_model.specs.Program.{Program}
use Rattle.loop_nest.specs.Digraph.{Digraph}
use Rattle.loop_nest.specs.Walks.{KeepsBound}
use Rattle.method_flow.specs.Graphs.{IsGraphOf, IsLiveGraph}
use Rattle.method_flow.specs.Keeping.{BoundOf}
use Rattle.loop_rules.specs.Tests.{Constants}
use Rattle.loop_rules.specs.Counted.{CountsTo, EachCycleIsALoop}
use Rattle.loop_rules.specs.Further.Known.{Known}
use Rattle.counted_laws.specs.Counting.{CountsFurther}
use Rattle.activations.specs.Setting.{Setting}
use Rattle.activations.specs.Activations.{Stage, IsActivation}
use Rattle.activations.specs.Keeping.{walk_of, stages_of, LiesAmong}

-- The loop of the method with the header at this place counts to this number, by some rule, in the method's graph, of which each cycle takes a back edge.
pub record CountsInGraph (P : Program) (Counts : (method : ℕ) → Digraph → (header n : ℕ) → Type 0) (m p n : ℕ) : Type 0 where
  pub graph : Digraph
  pub is_graph : IsGraphOf P m graph
  pub cycles : EachCycleIsALoop graph
  pub counts : Counts m graph p n

abbrev pub CountsIn : Program → Constants → (m p n : ℕ) → Type 0
CountsIn P constants m p n = CountsInGraph P (CountsTo P constants) m p n

abbrev pub CountsFurtherIn : Program → Known → (m p n : ℕ) → Type 0
CountsFurtherIn P known m p n = CountsInGraph P (CountsFurther P known) m p n

-- it counts to the bound that is given for it, or to less
pub record IsWithinBound (Counts : (m p n : ℕ) → Type 0) (bound_of : BoundOf) (m p : ℕ) : Type 0 where
  pub bound : ℕ
  pub given : bound_of m p ≡ Some bound
  pub n : ℕ
  pub counts : Counts m p n
  pub within : n ≤ bound

abbrev pub CountsWithin : Program → Constants → BoundOf → (m p : ℕ) → Type 0
CountsWithin P constants bound_of m p = IsWithinBound (CountsIn P constants) bound_of m p

abbrev pub CountsFurtherWithin : Program → Known → BoundOf → (m p : ℕ) → Type 0
CountsFurtherWithin P known bound_of m p = IsWithinBound (CountsFurtherIn P known) bound_of m p

-- the walk keeps the bounds that are given for the loops of the method's live graph that don't count
abbrev pub WalkKeepsBut : Program → (Counted : (m p : ℕ) → Type 0) → BoundOf → (method : ℕ) → List ℕ → Type 0
WalkKeepsBut P Counted bound_of m ns =
    (g : Digraph) → IsLiveGraph P m g → (p bound : ℕ) → bound_of m p ≡ Some bound → ¬ Counted m p → KeepsBound g (2 * p) bound ns

-- the activation keeps them: its own walk does, and those of all activations within it
pub record KeepsBut {g : Setting} {m : ℕ} {a b : Stage} (Counted : (m p : ℕ) → Type 0) (bound_of : BoundOf) (h : IsActivation g m a b) : Type 0 where
  pub own : WalkKeepsBut g.program Counted bound_of m (walk_of h)
  pub inner : (m' : ℕ) (a' b' : Stage) (h' : IsActivation g m' a' b') → LiesAmong h' (stages_of h)
      → WalkKeepsBut g.program Counted bound_of m' (walk_of h')

-- those of the loops that don't count to constants
abbrev pub KeepsOthers : {g : Setting} {m : ℕ} {a b : Stage} → Constants → BoundOf → IsActivation g m a b → Type 0
KeepsOthers {g} constants bound_of h = KeepsBut (CountsWithin g.program constants bound_of) bound_of h

-- those of the loops that don't count with what is known further
abbrev pub KeepsFurtherOthers : {g : Setting} {m : ℕ} {a b : Stage} → Known → BoundOf → IsActivation g m a b → Type 0
KeepsFurtherOthers {g} known bound_of h = KeepsBut (CountsFurtherWithin g.program known bound_of) bound_of h
