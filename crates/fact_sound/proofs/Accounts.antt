-- What is kept account of along a stay whose visits give something back: its cycles without stalls, its look-ups, and what it was charged by sections.
use Rattle.std.proofs.Common.{◌≡◌, ℕ, ◌+◌, ◌≤◌, true, false, List, ◌∷◌, ◌++◌, All, Option, sum_by}
use Rattle.section_check.specs.Bounded.{cost_of_nodes}
use Rattle.bytecode_model.specs.State.{Frame}
use Rattle.method_flow.specs.Shapes.{node_of}
use Rattle.method_flow.specs.Keeping.{BoundOf}
use Rattle.method_flow.specs.declared.timing.Timing.{Timing}
use Rattle.activations.specs.Setting.{Setting}
use Rattle.activations.specs.Activations.{Stage}
use Rattle.activations.specs.Timing.{HasTiming}
use Rattle.activations.specs.Stays.{IsTop}
use Rattle.bound_laws.proofs.SoundnessLemmas.Known.{Known}
use Rattle.bound_laws.proofs.SoundnessLemmas.Sections.{NodeIn, charges_of}
use Rattle.bound_laws.proofs.SoundnessLemmas.Accounts.{stall, RanStalled, IsPlaceWithin, Left}
use Rattle.fact_sound.specs.Visits.{Visit, visited, more_of, Visits}
use Rattle.fact_sound.proofs.Backed.{Never, Asked, BackedSection}

module _ (g : Setting) (k : Known g) (t : Timing) (bound_of : BoundOf) (ask : Asked) where
  -- A stay of a frame of m over these callers, from a to b, over these nodes of m; the visit of a call is charged what the call gives back.
  pub record Account (callers : List Frame) (m : ℕ) (a b : Stage) (nodes : List ℕ) : Type 0 where
    pub visit : Visit
    pub further : List Visit
    pub nodes_are : nodes ≡ visit.node ∷ visited further
    pub top : IsTop callers m a visit.node
    -- its cycles without stalls; what it looks up before it is left, and by the step with which it is left
    pub taken : ℕ
    pub looks : List ℕ
    pub back : List ℕ
    pub ran : RanStalled g k t a b taken (looks ++ back)
    pub timing : HasTiming t b.machine
    pub within : All (IsPlaceWithin g m) looks
    pub left : Left g callers b back
    -- by a section inside, the nodes and what the visits are charged beside cost at least the former
    pub inside : (value : Option ℕ) (s : BackedSection g k t bound_of ask true m value) → NodeIn g k t bound_of Never s.plain (node_of a.state.mode top.frame)
        → taken ≤ cost_of_nodes s.plain.meets.view.costs nodes + more_of (visit ∷ further)
    -- by a section of another kind, these are steps that it charges
    pub outside : (value : Option ℕ) (s : BackedSection g k t bound_of ask false m value) → NodeIn g k t bound_of Never s.plain (node_of a.state.mode top.frame)
        → Visits (charges_of g k t bound_of Never s.plain) a.machine.cache visit further (taken + stall g k t looks a.machine.cache)

  -- what the stay gives back: by its own visits, and by the calls that it makes
  abbrev pub given : {callers : List Frame} {m : ℕ} {a b : Stage} {nodes : List ℕ} → Account callers m a b nodes → ℕ
  given {callers} {m} {a} {b} {nodes} x = sum_by (ask.credit m) nodes + more_of (x.visit ∷ x.further)
