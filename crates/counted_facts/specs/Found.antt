-- What is asked of an activation where the facts that are read off the code are kept by themselves.
use Rattle.std.specs.Prelude.{◌≡◌, ℕ, ◌≤◌, ℤ, List, [], ◌∷◌, Contains, MatchOption}
use Rattle.std.specs.declared.option.Option.{Option}
use Rattle.class_pool.specs.declared.class.ClassFile.{ClassFile}
use Rattle.bytecode_model.specs.State.{Frame}
use Rattle.bytecode_model.specs.Program.{Program}
use Rattle.loop_nest.specs.Digraph.{Digraph}
use Rattle.method_flow.specs.Nodes.{At, number_of}
use Rattle.method_flow.specs.Graphs.{IsGraphOf, IsLiveGraph}
use Rattle.method_flow.specs.Keeping.{BoundOf}
use Rattle.method_flow.specs.declared.timing.Timing.{Timing}
use Rattle.program_tables.specs.Resolved.{resolved}
use Rattle.program_tables.specs.Resolving.{IsResolved}
use Rattle.loop_rules.specs.Counted.{EachCycleIsALoop}
use Rattle.loop_rules.specs.Sites.{int_at}
use Rattle.loop_rules.specs.Further.Known.{Known}
use Rattle.loop_rules.specs.Further.Arrays.{IsKnownBy}
use Rattle.program_sites.specs.Ints.Constants.{AreConstants}
use Rattle.flow_facts.specs.declared.facts.Scope.TheVariants.{Per, In}
use Rattle.flow_facts.specs.Facts.{CountFact, Facts}
use Rattle.fact_rules.specs.Keeping.{KeepsIn}
use Rattle.activations.specs.Setting.{Setting, IsSetting}
use Rattle.activations.specs.Activations.{Stage, IsActivation, cycles_of}
use Rattle.activations.specs.Timing.{HasTiming}
use Rattle.activations.specs.Keeping.{walk_of, stages_of, LiesAmong, Keeps}
use Rattle.activation_laws.specs.Counted.Further.{IsOfKnownRun}
use Rattle.activation_laws.specs.Counted.Runs.{IsOfBootRun}
use Rattle.activation_laws.specs.Counted.Others.{KeepsFurtherOthers}
use Rattle.fact_keeping.specs.Keeping.{visits_at, IsAllowed, IsCallAmong, BoundsKept, KeepsFacts}
use Rattle.counted_facts.specs.Stays.{StaysFurther}

-- the fact says of the place behind the test of a loop that it is visited as often as the loop counts, or more often, from each entry to the next
pub record IsFoundFact (P : Program) (known : Known) (f : CountFact) : Type 0 where
  pub graph : Digraph
  pub is_graph : IsGraphOf P f.method graph
  pub cycles : EachCycleIsALoop graph
  pub header : ℕ
  pub place : ℕ
  pub n : ℕ
  pub stays : StaysFurther P known f.method graph header n place
  pub nodes : f.nodes ≡ number_of (At place) ∷ []
  pub scope : f.scope ≡ Per header
  pub within : n ≤ f.most

-- the walk keeps the facts of the method that aren't found
abbrev pub WalkKeepsFactsBut : Program → (Found : CountFact → Type 0) → Facts → (method : ℕ) → List ℕ → Type 0
WalkKeepsFactsBut P Found facts m ns =
    (g : Digraph) → IsLiveGraph P m g → (f : CountFact) → Contains facts.counts f → f.method ≡ m → ¬ Found f → KeepsIn g f.scope f.nodes f.most ns

-- the activation keeps them, as it would keep all facts
pub record KeepsFactsBut {g : Setting} {m : ℕ} {a b : Stage} (Found : CountFact → Type 0) (facts : Facts) (h : IsActivation g m a b) : Type 0 where
  pub own : WalkKeepsFactsBut g.program Found facts m (walk_of h)
  pub inner : (m' : ℕ) (a' b' : Stage) (h' : IsActivation g m' a' b') → LiesAmong h' (stages_of h)
      → WalkKeepsFactsBut g.program Found facts m' (walk_of h')
  pub calls : (caller made : Frame) → IsCallAmong (stages_of h) caller made → IsAllowed facts caller.method caller.pc made.method
  pub within : (f : CountFact) → Contains facts.counts f → f.scope ≡ In m → visits_at f (stages_of h) ≤ f.most

-- an activation that begins in a run from the boot state keeps all facts, where it keeps those that aren't found
abbrev pub FoundFactsKeep : Type 0
FoundFactsKeep =
    (g : Setting) (known : Known) (facts : Facts) (m : ℕ) (a b : Stage) (h : IsActivation g m a b) → IsSetting g → IsOfKnownRun g known a.state
    → KeepsFactsBut (IsFoundFact g.program known) facts h → KeepsFacts facts h

-- What a bound of a method then says: every ended activation of the method that begins in such a run takes at most so many cycles, where it keeps the
-- bounds of the loops that don't count to them, and the facts that aren't found; where there is no number, no such activation ends.
abbrev pub BoundsWithoutFound : Program → Timing → Known → BoundOf → Facts → (method : ℕ) → (bound : Option ℕ) → Type 0
BoundsWithoutFound P t known bound_of facts m bound =
    (g : Setting) (a b : Stage) → IsSetting g → g.program ≡ P → HasTiming t a.machine → IsOfKnownRun g known a.state → (h : IsActivation g m a b)
    → KeepsFurtherOthers known bound_of h → KeepsFactsBut (IsFoundFact g.program known) facts h
    → MatchOption bound ⊥ (λ most. cycles_of a b ≤ most)

abbrev pub FoundFactsNeedNoPromise : Type 0
FoundFactsNeedNoPromise =
    (P : Program) (t : Timing) (known : Known) (bound_of : BoundOf) (facts : Facts) (m : ℕ) (bound : Option ℕ) → BoundsKept P t bound_of facts m bound
    → BoundsWithoutFound P t known bound_of facts m bound

-- ---- programs of class files

-- Every ended activation of the method that begins in a run of the program from its boot state takes at most so many cycles, where it keeps the bounds of the
-- loops that don't count to them, and the facts that aren't found; where there is no number, no such activation ends.
abbrev pub BoundsFoundInRuns : List ClassFile → Timing → Known → BoundOf → Facts → (method : ℕ) → (bound : Option ℕ) → Type 0
BoundsFoundInRuns cs t known bound_of facts m bound =
    (g : Setting) (a b : Stage) → IsSetting g → g.program ≡ resolved cs → HasTiming t a.machine → IsOfBootRun cs g a.state → (h : IsActivation g m a b)
    → KeepsFurtherOthers known bound_of h → KeepsFactsBut (IsFoundFact g.program known) facts h
    → MatchOption bound ⊥ (λ most. cycles_of a b ≤ most)

-- so with the arrays of fields that are known by constants
abbrev pub FoundFactsOfRuns : Type 0
FoundFactsOfRuns =
    (cs : List ClassFile) (t : Timing) (constants : List (Option ℤ)) (known : Known) (bound_of : BoundOf) (facts : Facts) (m : ℕ) (bound : Option ℕ)
    → IsResolved cs → AreConstants cs constants → IsKnownBy (resolved cs) (int_at constants) known → BoundsKept (resolved cs) t bound_of facts m bound
    → BoundsFoundInRuns cs t known bound_of facts m bound
