-- Loops that count keep their bounds in activations.
use Rattle.std.specs.Prelude.{◌≡◌, ℕ, ◌≤◌, MatchOption, List}
use Rattle.std.specs.declared.option.Option.{Option}
use Rattle.loop_nest.specs.Digraph.{Digraph}
use Rattle.loop_nest.specs.Walks.{KeepsBound}
use Rattle.bytecode_model.specs.Program.{Program}
use Rattle.method_flow.specs.Graphs.{IsGraphOf, IsLiveGraph}
use Rattle.method_flow.specs.Keeping.{BoundOf}
use Rattle.method_flow.specs.declared.timing.Timing.{Timing}
use Rattle.loop_rules.specs.Tests.{Constants}
use Rattle.loop_rules.specs.Counted.{EachCycleIsALoop}
use Rattle.counted_laws.specs.Paths.{HoldConstants}
use Rattle.activations.specs.Setting.{Setting, IsSetting}
use Rattle.activations.specs.Activations.{Stage, IsActivation, cycles_of}
use Rattle.activations.specs.Timing.{HasTiming}
use Rattle.activations.specs.Keeping.{Keeps}
use Rattle.activations.specs.Warrant.{BoundsActivations}
use Rattle.activation_laws.specs.Counted.Others.{KeepsOthers}

-- a walk that keeps a bound in a method's graph, of which each cycle takes a back edge, keeps it in the live graph
abbrev pub LiveGraphsKeep : Type 0
LiveGraphsKeep =
    (P : Program) (m : ℕ) (whole live : Digraph) (h n : ℕ) (ns : List ℕ) → IsGraphOf P m whole → IsLiveGraph P m live → EachCycleIsALoop whole
    → KeepsBound whole h n ns → KeepsBound live h n ns

-- An activation that begins where the fields hold their constants keeps all bounds, where it keeps those of the loops that don't count to them.
abbrev pub CountedActivationsKeep : Type 0
CountedActivationsKeep =
    (g : Setting) (constants : Constants) (bound_of : BoundOf) (m : ℕ) (a b : Stage) (h : IsActivation g m a b) → IsSetting g
    → HoldConstants g.program constants a.state
    → KeepsOthers constants bound_of h → Keeps bound_of h

-- What a bound of a method then says: every ended activation of the method that begins where the fields hold their constants takes at most so many
-- cycles, where it keeps the bounds of the loops that don't count to them; where there is no number, no such activation ends.
abbrev pub BoundsWithoutCounted : Program → Timing → Constants → BoundOf → (method : ℕ) → (bound : Option ℕ) → Type 0
BoundsWithoutCounted P t constants bound_of m bound =
    (g : Setting) (a b : Stage) → IsSetting g → g.program ≡ P → HasTiming t a.machine → HoldConstants P constants a.state → (h : IsActivation g m a b)
    → KeepsOthers constants bound_of h
    → MatchOption bound ⊥ (λ most. cycles_of a b ≤ most)

abbrev pub CountedLoopsNeedNoPremise : Type 0
CountedLoopsNeedNoPremise =
    (P : Program) (t : Timing) (constants : Constants) (bound_of : BoundOf) (m : ℕ) (bound : Option ℕ) → BoundsActivations P t bound_of m bound
    → BoundsWithoutCounted P t constants bound_of m bound
