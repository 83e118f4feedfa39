-- The cycles of steps of a frame, against the costs of nodes.
use Rattle.std.proofs.Common.{◌≡◌, ℕ, ◌+◌, ◌*◌, ◌%◌, ◌≤◌, Bool, true, false, ◌==◌, List, ◌∷◌, Option, slice_index, refl, sym, ap, ◌∙◌, subst, arith}
use Rattle.std.proofs.lemmas.Bool.{eq-eqb, ne_eqb}
use Rattle.std.proofs.lemmas.List.Sums.{sum_by-cons}
use Rattle.section_check.specs.Bounded.{cost_of_nodes}
use Rattle.bytecode_model.specs.declared.Ending.{Ending}
use Rattle.bytecode_model.specs.declared.Ending.TheVariants.{Running, Raising}
use Rattle.bytecode_model.specs.State.{Frame}
use Rattle.method_flow.specs.Nodes.{Node, At, number_of}
use Rattle.method_flow.specs.Costs.{IsOwnCost}
use Rattle.method_flow.specs.Shapes.{node_of}
use Rattle.method_flow.specs.Keeping.{BoundOf}
use Rattle.method_flow.specs.declared.timing.Timing.{Timing}
use Rattle.activations.specs.Setting.{Setting}
use Rattle.activations.specs.Activations.{Stage}
use Rattle.activations.specs.Steps.{StepFacts}
use Rattle.activations.specs.Stays.{IsTop}
use Rattle.bound_laws.proofs.SoundnessLemmas.Known.{Known}
use Rattle.bound_laws.proofs.SoundnessLemmas.Sections.{SectionOf, as_section, NodeIn}
use Rattle.bound_laws.proofs.SoundnessLemmas.Inside.{node_covers}

-- ---- numbers of nodes

pub is_even : (p : ℕ) → ((2 * p) % 2 == 1) ≡ false
is_even p = ne_eqb ((2 * p) % 2) 1 (λ e. let bad : ⊥ = omega arith in bad)

pub is_odd : (p : ℕ) → ((2 * p + 1) % 2 == 1) ≡ true
is_odd p = eq-eqb ((2 * p + 1) % 2) 1 (omega arith)

pub at_running : (a : Stage) (f : Frame) → a.state.mode ≡ Running → node_of a.state.mode f ≡ At f.pc
at_running a f is = ap (λ (x : Ending). node_of x f) is

module _ {callers : List Frame} {m : ℕ} {a : Stage} {u : ℕ} (top : IsTop callers m a u) where
  number_at : (mode : Ending) → a.state.mode ≡ mode → u ≡ number_of (node_of mode top.frame)
  number_at mode is = top.node ∙ ap (λ (x : Ending). number_of (node_of x top.frame)) is

  -- a frame that runs stands at an instruction, and one for which an object is raised at a raise step
  pub is_instruction : a.state.mode ≡ Running → u ≡ 2 * top.frame.pc
  is_instruction is = number_at Running is

  pub is_raise_step : (p : ℕ) → a.state.mode ≡ Raising p → u ≡ 2 * top.frame.pc + 1
  is_raise_step p is = number_at (Raising p) is

  pub even_at : a.state.mode ≡ Running → (u % 2 == 1) ≡ false
  even_at is = ap (λ (x : ℕ). x % 2 == 1) (is_instruction is) ∙ is_even top.frame.pc

  pub odd_at : (p : ℕ) → a.state.mode ≡ Raising p → (u % 2 == 1) ≡ true
  odd_at p is = ap (λ (x : ℕ). x % 2 == 1) (is_raise_step p is) ∙ is_odd top.frame.pc

-- ---- costs

pub nodes_cost : (costs : List ℕ) (u : ℕ) (us : List ℕ) → cost_of_nodes costs (u ∷ us) ≡ slice_index costs u + cost_of_nodes costs us
nodes_cost costs u us = sum_by-cons (λ (x : ℕ). slice_index costs x) u us

module _ (g : Setting) (k : Known g) (t : Timing) (bound_of : BoundOf) (Keep : ℕ → List ℕ → Type 0) where
  -- a step's own cycles are at most each own cost of the node
  pub below_own : {callers : List Frame} {m : ℕ} {a b : Stage} {u : ℕ} (top : IsTop callers m a u) (facts : StepFacts g t k.words a b) (n : Node) → node_of a.state.mode top.frame ≡ n
      → (c : ℕ) → IsOwnCost g.program t m n c → facts.micro ≤ c
  below_own {callers} {m} {a} {b} {u} top facts n is c own =
      let at_frame = subst (λ (x : ℕ). IsOwnCost g.program t x n c) (sym top.method) own in
      facts.costs top.frame callers c top.frames (subst (λ (x : Node). IsOwnCost g.program t top.frame.method x c) (sym is) at_frame)

  -- the cost of the node covers them
  pub step_covers : {inside : Bool} {callers : List Frame} {m : ℕ} {a b : Stage} {u : ℕ} {value : Option ℕ} (top : IsTop callers m a u) (facts : StepFacts g t k.words a b) (s : SectionOf g k t bound_of Keep inside m value)
      → NodeIn g k t bound_of Keep s (node_of a.state.mode top.frame) → facts.micro ≤ slice_index s.meets.view.costs u
  step_covers {inside} {callers} {m} {a} {b} {u} {value} top facts s reached =
      let n = node_of a.state.mode top.frame in
      let r = node_covers g.program t bound_of Keep s.earlier (as_section g k t bound_of Keep s) value s.meets n facts.micro reached (below_own top facts n refl) in
      subst (λ (x : ℕ). facts.micro ≤ slice_index s.meets.view.costs x) (sym top.node) r
