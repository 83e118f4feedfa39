-- When an activation keeps facts, and what a bound says of activations that do.
use Rattle.std.specs.Prelude.{◌≡◌, ℕ, ◌<◌, ◌≤◌, ◌==◌, ◌&&◌, if◌then◌else◌, List, [], ◌∷◌, ◌++◌, sum_by, Contains, MatchOption}
use Rattle.std.specs.declared.option.Option.{Option}
use Rattle.section_check.specs.Bounded.{holds}
use Rattle.bytecode_model.specs.declared.Ending.{Ending}
use Rattle.bytecode_model.specs.State.{Frame}
use Rattle.bytecode_model.specs.Program.{Program}
use Rattle.method_flow.specs.Nodes.{number_of}
use Rattle.method_flow.specs.Shapes.{node_of}
use Rattle.method_flow.specs.Keeping.{BoundOf}
use Rattle.method_flow.specs.declared.timing.Timing.{Timing}
use Rattle.activations.specs.Setting.{Setting, IsSetting}
use Rattle.activations.specs.Activations.{Stage, depth, IsActivation, cycles_of}
use Rattle.activations.specs.Timing.{HasTiming}
use Rattle.activations.specs.Keeping.{stages_of, walk_of, LiesAmong, Keeps}
use Rattle.flow_facts.specs.declared.facts.Scope.TheVariants.{In}
use Rattle.flow_facts.specs.Facts.{CountFact, TargetFact, Facts}
use Rattle.fact_rules.specs.Keeping.{WalkKeepsFacts}

-- ---- what is counted over all boundaries

-- the top frame is of the fact's method, and stands at one of its nodes
abbrev pub top_visits : CountFact → Ending → List Frame → ℕ
top_visits f mode [] = 0
top_visits f mode (x ∷ xs) = if x.method == f.method && holds f.nodes (number_of (node_of mode x)) then 1 else 0

-- how often that is so at these boundaries
abbrev pub visits_at : CountFact → List Stage → ℕ
visits_at f stages = sum_by (λ c. top_visits f c.state.mode c.state.frames) stages

-- ---- what invokes run

-- each fact that names the invoke at the place lets it run the method
abbrev pub IsAllowed : Facts → (method place target : ℕ) → Type 0
IsAllowed facts m p t = (f : TargetFact) → Contains facts.targets f → f.method ≡ m → f.place ≡ p → Contains f.targets t

-- From the first boundary to the second, which comes directly behind it, the top frame of the first makes the top frame of the second.
pub record IsCallAmong (stages : List Stage) (caller made : Frame) : Type 0 where
  pub before : List Stage
  pub after : List Stage
  pub at : Stage
  pub next : Stage
  pub split : stages ≡ before ++ at ∷ next ∷ after
  pub deeper : depth at < depth next
  pub callers : List Frame
  pub at_frames : at.state.frames ≡ caller ∷ callers
  pub waiting : List Frame
  pub next_frames : next.state.frames ≡ made ∷ waiting

-- ---- activations

-- Its own walk and those of all activations within it keep the facts of their methods; each frame that is made within is of a method that its invoke may
-- run; and over all its boundaries, those of activations within it too, the facts are kept that count in an activation of its method.
pub record KeepsFacts {g : Setting} {m : ℕ} {a b : Stage} (facts : Facts) (h : IsActivation g m a b) : Type 0 where
  pub own : WalkKeepsFacts g.program facts m (walk_of h)
  pub inner : (m' : ℕ) (a' b' : Stage) (h' : IsActivation g m' a' b') → LiesAmong h' (stages_of h) → WalkKeepsFacts g.program facts m' (walk_of h')
  pub calls : (caller made : Frame) → IsCallAmong (stages_of h) caller made → IsAllowed facts caller.method caller.pc made.method
  pub within : (f : CountFact) → Contains facts.counts f → f.scope ≡ In m → visits_at f (stages_of h) ≤ f.most

-- ---- bounds

-- every ended activation of the method that keeps the bounds of loops and the facts takes at most so many cycles; where there is no number, none ends
abbrev pub BoundsKept : Program → Timing → BoundOf → Facts → (method : ℕ) → (bound : Option ℕ) → Type 0
BoundsKept P t bound_of facts m bound =
    (g : Setting) (a b : Stage) → IsSetting g → g.program ≡ P → HasTiming t a.machine → (h : IsActivation g m a b) → Keeps bound_of h
    → KeepsFacts facts h → MatchOption bound ⊥ (λ most. cycles_of a b ≤ most)
