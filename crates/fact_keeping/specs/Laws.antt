-- What follows where an activation keeps facts.
use Rattle.std.specs.Prelude.{◌≡◌, ℕ, ◌≤◌, Option}
use Rattle.bytecode_model.specs.Program.{Program}
use Rattle.method_flow.specs.Keeping.{BoundOf}
use Rattle.method_flow.specs.declared.timing.Timing.{Timing}
use Rattle.activations.specs.Setting.{Setting, IsSetting}
use Rattle.activations.specs.Activations.{Stage, IsActivation}
use Rattle.activations.specs.Keeping.{stages_of, walk_of, Keeps}
use Rattle.activations.specs.Warrant.{BoundsActivations}
use Rattle.flow_facts.specs.Facts.{CountFact, Facts, no_facts}
use Rattle.priced_sections.specs.Visits.{visits_of}
use Rattle.fact_rules.specs.Keeping.{WalkKeepsFacts}
use Rattle.fact_keeping.specs.Keeping.{visits_at, KeepsFacts, BoundsKept}
use Rattle.fact_keeping.specs.Children.{KeepsBy, WalkKeepsBoth}

-- where an activation keeps the facts, its stay does, and so do all stays within it
abbrev pub StaysKeepFacts : Type 0
StaysKeepFacts =
    (g : Setting) (m : ℕ) (a b : Stage) (h : IsActivation g m a b) (facts : Facts) → KeepsFacts facts h → KeepsBy (WalkKeepsFacts g.program facts) h

-- where it keeps the bounds of loops, too, they keep both
abbrev pub StaysKeepBoth : Type 0
StaysKeepBoth =
    (g : Setting) (m : ℕ) (a b : Stage) (h : IsActivation g m a b) (bound_of : BoundOf) (facts : Facts) → Keeps bound_of h → KeepsFacts facts h
    → KeepsBy (WalkKeepsBoth g.program bound_of facts) h

-- what is counted over all boundaries of an activation of the fact's method counts the visits of its own walk, too
abbrev pub OwnVisitsCount : Type 0
OwnVisitsCount =
    (g : Setting) (m : ℕ) (a b : Stage) (h : IsActivation g m a b) → IsSetting g → (f : CountFact) → f.method ≡ m
    → visits_of f.nodes (walk_of h) ≤ visits_at f (stages_of h)

-- what bounds the activations that keep no facts bounds all that keep the bounds of loops
abbrev pub NoFactsAreAsked : Type 0
NoFactsAreAsked =
    (P : Program) (t : Timing) (bound_of : BoundOf) (m : ℕ) (bound : Option ℕ) → BoundsKept P t bound_of no_facts m bound
    → BoundsActivations P t bound_of m bound
