-- What is kept account of along a stay: its cycles without stalls, its look-ups, and what it was charged by sections.
use Rattle.std.proofs.Common.{◌≡◌, ℕ, ◌+◌, ◌≤◌, true, false, List, [], ◌∷◌, ◌++◌, All, Option, sym, ap, ◌∙◌, subst, arith}
use Rattle.std.proofs.lemmas.List.Elements.{All-cons, All-nil, All-head, All-tail}
use Rattle.method_cache.specs.Contents.{Cache}
use Rattle.method_cache.specs.Regions.LookUps.{after, stall_of_loads}
use Rattle.section_check.specs.Bounded.{cost_of_nodes}
use Rattle.bound_laws.specs.Soundness.Stays.{Stays}
use Rattle.bytecode_model.specs.declared.Ending.TheVariants.{Running, Raising}
use Rattle.bytecode_model.specs.State.{Frame}
use Rattle.method_flow.specs.Shapes.{node_of}
use Rattle.method_flow.specs.Keeping.{BoundOf}
use Rattle.method_flow.specs.Regions.{IsWithin}
use Rattle.method_flow.specs.declared.timing.Timing.{Timing}
use Rattle.activations.specs.Setting.{Setting}
use Rattle.activations.specs.Activations.{Stage}
use Rattle.activations.specs.Steps.{looked_up, StepFacts}
use Rattle.activations.specs.Timing.{HasTiming}
use Rattle.activations.specs.Stays.{IsTop}
use Rattle.bound_laws.proofs.SoundnessLemmas.Known.{Known}
use Rattle.bound_laws.proofs.SoundnessLemmas.Sections.{SectionOf, NodeIn, charges_of}

-- ---- a run from one boundary to another

module _ (g : Setting) (k : Known g) (t : Timing) where
  abbrev pub stall : List ℕ → Cache → ℕ
  stall ls c = stall_of_loads k.words t.read ls c

  -- so many cycles beside the stalls of these look-ups
  pub record RanStalled (a b : Stage) (taken : ℕ) (ls : List ℕ) : Type 0 where
    pub clock : b.machine.clock ≡ a.machine.clock + (taken + stall ls a.machine.cache)
    pub cache : b.machine.cache ≡ after k.words ls a.machine.cache

  pub then_ran : (a b c : Stage) (n m : ℕ) (ls ks : List ℕ) → RanStalled a b n ls → RanStalled b c m ks → RanStalled a c (n + m) (ls ++ ks)
  then_ran a b c n m ls ks x y =
      let s = k.stalls k.words t.read ls ks a.machine.cache in
      let here : stall ks (after k.words ls a.machine.cache) ≡ stall ks b.machine.cache = ap (λ (z : Cache). stall ks z) (sym x.cache) in
      let first = x.clock in
      let second = y.clock in
      record { clock = omega arith; cache = y.cache ∙ (ap (λ (z : Cache). after k.words ks z) x.cache ∙ sym (k.follow k.words ls ks a.machine.cache)) }

  pub relisted : (a b : Stage) (n : ℕ) (ls ks : List ℕ) → ls ≡ ks → RanStalled a b n ls → RanStalled a b n ks
  relisted a b n ls ks e r = let Q : List ℕ → Type 0 = λ z. RanStalled a b n z in subst Q e r

  pub step_ran : (a b : Stage) (facts : StepFacts g t k.words a b) (ls : List ℕ) → looked_up g a b ≡ ls → RanStalled a b facts.micro ls
  step_ran a b facts ls e = relisted a b facts.micro (looked_up g a b) ls e (record { clock = facts.clock; cache = facts.cache })

-- ---- look-ups of methods

-- the place of a method that may run while m does
abbrev pub IsPlaceWithin : Setting → (m place : ℕ) → Type 0
IsPlaceWithin g m k = (x : ℕ) × IsWithin g.program m x × (k ≡ g.places.method x)

pub all_of : {K L : ℕ → Type 0} → ((x : ℕ) → K x → L x) → (xs : List ℕ) → All K xs → All L xs
all_of {K} {L} h [] all = All-nil L
all_of {K} {L} h (x ∷ xs) all = All-cons L x xs (h x (All-head K x xs all)) (all_of h xs (All-tail K x xs all))

-- The place of the caller is looked up where a frame returns to it, and not where the frame is dropped: the caller's own raise step follows, outside of the stay.
pub data Left (g : Setting) (callers : List Frame) (b : Stage) (back : List ℕ) : Type 0 where
  returned : (c : Frame) (others : List Frame) → callers ≡ c ∷ others → b.state.mode ≡ Running → back ≡ g.places.method c.method ∷ [] → Left g callers b back
  dropped : (p : ℕ) → b.state.mode ≡ Raising p → back ≡ [] → Left g callers b back

-- ---- a stay

module _ (g : Setting) (k : Known g) (t : Timing) (bound_of : BoundOf) (Keep : ℕ → List ℕ → Type 0) where
  -- A stay of a frame of m over these callers, from a to b, over these nodes of m.
  pub record Account (callers : List Frame) (m : ℕ) (a b : Stage) (nodes : List ℕ) : Type 0 where
    pub node : ℕ
    pub further : List ℕ
    pub nodes_are : nodes ≡ node ∷ further
    pub top : IsTop callers m a node
    -- its cycles without stalls; what it looks up before it is left, and by the step with which it is left
    pub taken : ℕ
    pub looks : List ℕ
    pub back : List ℕ
    pub ran : RanStalled g k t a b taken (looks ++ back)
    pub timing : HasTiming t b.machine
    pub within : All (IsPlaceWithin g m) looks
    pub left : Left g callers b back
    -- by a section inside, the nodes cost at least the former
    pub inside : (value : Option ℕ) (s : SectionOf g k t bound_of Keep true m value) → NodeIn g k t bound_of Keep s (node_of a.state.mode top.frame) → taken ≤ cost_of_nodes s.meets.view.costs nodes
    -- by a section of another kind, these are steps that it charges
    pub outside : (value : Option ℕ) (s : SectionOf g k t bound_of Keep false m value) → NodeIn g k t bound_of Keep s (node_of a.state.mode top.frame)
        → Stays (charges_of g k t bound_of Keep s) a.machine.cache node further (taken + stall g k t looks a.machine.cache)
