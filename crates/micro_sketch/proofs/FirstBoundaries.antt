-- The first boundary of a run is one.
use Rattle.std.proofs.Common.{◌≡◌, ℕ, zero, suc, pred, ◌+◌, ◌-◌, ◌^◌, ◌<◌, Bool, true, false, List, [], ◌++◌, reverse, ⊎_elim, refl, sym, ap, ◌∙◌, subst, arith, append-nil}
use Rattle.std.specs.declared.option.Option.{Option}
use Rattle.std.proofs.lemmas.List.{append_cancel_right}
use Rattle.jop_core.specs.State.{MachineState}
use Rattle.jop_core.specs.Cycle.{at_boundary, asks_input}
use Rattle.jop_core.specs.Scene.{Scene, begun, left_over, next_scene, run, output_during}
use Rattle.device_traits.specs.Told.{Told}
use Rattle.micro_sketch.specs.Ends.{ComesToBoundary}
use Rattle.micro_sketch.specs.Step.{RanCycles, Arrived}
use Rattle.micro_sketch.proofs.Scenes.{run-begun}
use Rattle.micro_sketch.proofs.During.{output-reversed}
use Rattle.micro_sketch.proofs.Stepping.{below_or_from, Ran-state, Ran-output}

-- a place after the first where a test holds, and where it holds at none between
pub record IsFirst (test : ℕ → Bool) (place : ℕ) : Type 0 where
  pub positive : 0 < place
  pub holds : test place ≡ true
  pub before : (i : ℕ) → suc i < place → test (suc i) ≡ false

not_before : (test : ℕ → Bool) (c d : ℕ) → IsFirst test c → IsFirst test d → c < d → ⊥
not_before test c d first second below =
    let place : suc (pred c) ≡ c = let positive = first.positive in omega arith in
    let none : test c ≡ false = sym (ap test place) ∙ second.before (pred c) (omega (arith, place, below)) in
    let clash : true ≡ false = sym first.holds ∙ none in cc

pub same_first : (test : ℕ → Bool) (c d : ℕ) → IsFirst test c → IsFirst test d → c ≡ d
same_first test c d first second =
    ⊎_elim
    (λ below. absurd (not_before test c d first second below))
    (λ from. ⊎_elim
    (λ past. absurd (not_before test d c second first past))
    (λ to. omega (arith, from, to))
    (below_or_from d c))
    (below_or_from c d)

-- whether a run with these answers is at a boundary after so many cycles
abbrev pub boundary_after : MachineState → List (Option ℕ) → ℕ → Bool
boundary_after old answers k = at_boundary (run k (begun old answers)).state

-- so many cycles come to the first boundary, with these answers
abbrev pub ComesAfter : ℕ → MachineState → List (Option ℕ) → Type 0
ComesAfter cycles old answers = IsFirst (boundary_after old answers) cycles

-- the cycles to the next boundary are the first to come to one, also with further answers behind
pub Arrived-comes : (old new : MachineState) (t0 t1 : Told) (more : List (Option ℕ)) → (far : Arrived old new t0 t1) → ComesAfter far.cycles old (far.answers ++ more)
Arrived-comes old new t0 t1 more far = record {
  positive = far.positive;
  holds = ap at_boundary (far.ran.state more) ∙ far.boundary;
  before = λ i below.
      let R : ℕ → Type 0 = λ k. RanCycles k old new t0 t1 far.answers in
      let whole : far.cycles ≡ suc i + (far.cycles - suc i) = omega (arith, below) in
      ap at_boundary (Ran-state (suc i) (far.cycles - suc i) old new t0 t1 far.answers (subst R whole far.ran) more) ∙ far.quiet i below;
}

-- a run whose first boundary is known to come after so many cycles has come to it after just these
pub lands : (cycles : ℕ) (old new : MachineState) (t0 t1 : Told) (more : List (Option ℕ)) → (far : Arrived old new t0 t1) → ComesAfter cycles old (far.answers ++ more)
    → (far.cycles ≡ cycles) × (new ≡ (run cycles (begun old (far.answers ++ more))).state)
lands cycles old new t0 t1 more far known =
    let same = same_first (boundary_after old (far.answers ++ more)) far.cycles cycles (Arrived-comes old new t0 t1 more far) known in
    (same, sym (far.ran.state more) ∙ ap (λ k. (run k (begun old (far.answers ++ more))).state) same)

-- two runs that were given the same answers, as far as both took any, have come to the same boundary
pub same_boundary : (old new new' : MachineState) (t0 t1 t2 t3 : Told) (more more' : List (Option ℕ)) → (far : Arrived old new t0 t1) → (far' : Arrived old new' t2 t3) → far.answers ++ more ≡ far'.answers ++ more'
    → (far.cycles ≡ far'.cycles) × (new ≡ new') × (far.answers ≡ far'.answers)
same_boundary old new new' t0 t1 t2 t3 more more' far far' answered =
    let C : List (Option ℕ) → Type 0 = λ answers. ComesAfter far'.cycles old answers in
    let l = lands far'.cycles old new t0 t1 more far (subst C (sym answered) (Arrived-comes old new' t2 t3 more' far')) in
    let left : more ≡ more' = sym (far.ran.left more) ∙ ap (λ k. (run k (begun old (far.answers ++ more))).answers) l.0 ∙ ap (λ (answers : List (Option ℕ)). (run far'.cycles (begun old answers)).answers) answered ∙ far'.ran.left more' in (
      l.0,
      l.1 ∙ ap (λ (answers : List (Option ℕ)). (run far'.cycles (begun old answers)).state) answered ∙ far'.ran.state more',
      append_cancel_right far.answers far'.answers more (answered ∙ ap (λ (z : List (Option ℕ)). far'.answers ++ z) (sym left)),
    )

-- a boundary that is known to come, after not too many cycles
pub comes_soon : (cycles : ℕ) (s : MachineState) (answers : List (Option ℕ)) → cycles < 2 ^ 62 → ComesAfter cycles s answers → ComesToBoundary s answers
comes_soon cycles s answers few first =
    let positive = first.positive in
    let place : suc (pred cycles) ≡ cycles = omega arith in
    record { after = pred cycles; soon = omega (arith, few, place); boundary = ap (boundary_after s answers) place ∙ first.holds }

-- The same over scenes, which may have put something out before.

-- from c so many cycles lead to d, which is the first boundary
pub record Leads (cycles : ℕ) (c d : Scene) : Type 0 where
  pub positive : 0 < cycles
  pub same : run cycles c ≡ d
  pub boundary : at_boundary d.state ≡ true
  pub quiet : (i : ℕ) → suc i < cycles → at_boundary (run (suc i) c).state ≡ false

state-begun : (k : ℕ) (c : Scene) → (run k (begun c.state c.answers)).state ≡ (run k c).state
state-begun k c = ap (λ (z : Scene). z.state) (sym (run-begun k c))

pub Leads-comes : (cycles : ℕ) (c d : Scene) → Leads cycles c d → ComesAfter cycles c.state c.answers
Leads-comes cycles c d leads = record {
  positive = leads.positive;
  holds = ap at_boundary (state-begun cycles c ∙ ap (λ (z : Scene). z.state) leads.same) ∙ leads.boundary;
  before = λ i below. ap at_boundary (state-begun (suc i) c) ∙ leads.quiet i below;
}

-- a machine that has come to its next boundary stands where such a run leads, and its device was given what that run put out
pub record Landed (old new : MachineState) (t0 t1 : Told) (far : Arrived old new t0 t1) (more : List (Option ℕ)) (before : List ℕ) (cycles : ℕ) (d : Scene) : Type 0 where
  pub cycles_are : far.cycles ≡ cycles
  pub state_is : new ≡ d.state
  pub answers_left : d.answers ≡ more
  pub output_is : d.output ≡ reverse (output_during far.cycles (begun old far.answers)) ++ before

pub Leads-landed : (cycles : ℕ) (old new : MachineState) (t0 t1 : Told) (far : Arrived old new t0 t1) (more : List (Option ℕ)) (before : List ℕ) (d : Scene)
    → Leads cycles (record { state = old; answers = far.answers ++ more; output = before }) d → Landed old new t0 t1 far more before cycles d
Leads-landed cycles old new t0 t1 far more before d leads =
    let c : Scene = record { state = old; answers = far.answers ++ more; output = before } in
    let l = lands cycles old new t0 t1 more far (Leads-comes cycles c d leads) in
    let put = output_during far.cycles (begun old far.answers) in
    let whole : output_during far.cycles c ≡ put = Ran-output far.cycles old new t0 t1 far.answers more before far.ran in
    let there : run far.cycles c ≡ d = ap (λ k. run k c) l.0 ∙ leads.same in
    record {
      cycles_are = l.0;
      state_is = l.1 ∙ state-begun cycles c ∙ ap (λ (z : Scene). z.state) leads.same;
      answers_left = ap (λ (z : Scene). z.answers) (sym there ∙ run-begun far.cycles c) ∙ far.ran.left more;
      output_is = ap (λ (z : Scene). z.output) (sym there) ∙ output-reversed far.cycles c ∙ ap (λ out. reverse out ++ before) whole;
    }

-- Where no cycle asks for input, no answer is taken.

pub run-asks_none : (k : ℕ) (c : Scene) → ((i : ℕ) → i < k → asks_input (run i c).state ≡ false) → (run k c).answers ≡ c.answers
run-asks_none zero c none = refl
run-asks_none (suc k) c none =
    run-asks_none k (next_scene c) (λ i below. none (suc i) (omega (arith, below)))
    ∙ ap (λ asks. left_over asks c.answers) (none 0 (omega arith))

pub Ran-takes_none : (n : ℕ) (old new : MachineState) (t0 t1 : Told) (answers : List (Option ℕ)) → RanCycles n old new t0 t1 answers → ((i : ℕ) → i < n → asks_input (run i (begun old answers)).state ≡ false) → answers ≡ []
Ran-takes_none n old new t0 t1 answers far none =
    sym (run-asks_none n (begun old answers) none)
    ∙ ap (λ (all : List (Option ℕ)). (run n (begun old all)).answers) (sym (append-nil answers))
    ∙ far.left []
