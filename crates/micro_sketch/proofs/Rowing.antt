-- From a row on the sketch to a step of the machine.
use Rattle.std.proofs.Common.{◌≡◌, ◌≢◌, ℕ, zero, suc, pred, ◌+◌, ◌-◌, ◌^◌, ◌<◌, ◌≤◌, Bool, true, false, List, [], ◌∷◌, ◌++◌, length, reverse, None, ⊎_elim, refl, sym, ap, ◌∙◌, subst, arith, append-nil, length-append}
use Rattle.std.specs.declared.option.Option.{Option}
use Rattle.std.proofs.lemmas.List.{length-reverse}
use Rattle.microcode.specs.declared.TheConstants.{ENTRIES, RAISE}
use Rattle.micro_flow.specs.declared.CostParams.{CostParams}
use Rattle.micro_flow.specs.Walk.{IsGreatestTime}
use Rattle.jop_core.specs.State.{MachineState}
use Rattle.jop_core.specs.Cycle.{at_boundary, asks_input, output_of, entry_of}
use Rattle.jop_core.specs.Scene.{Scene, begun, left_over, next_scene, run, output_during}
use Rattle.device_traits.specs.Told.{Told}
use Rattle.micro_sketch.specs.Sketch.{Sketch, exec, among}
use Rattle.micro_sketch.specs.Stands.{Env, Shaped, Reaches, PortFits, IsDone, conc, scene, stalls}
use Rattle.micro_sketch.specs.Laws.{StartsAt}
use Rattle.micro_sketch.specs.Ends.{ComesToBoundary}
use Rattle.micro_sketch.specs.Step.{RanCycles, HasNoBoundary, Arrived}
use Rattle.micro_sketch.specs.Rows.{expecting}
use Rattle.micro_sketch.specs.RowLaws.{AlwaysSilent, ReadsNothing, WritesNothing}
use Rattle.micro_sketch.proofs.Scenes.{run-add, run-length}
use Rattle.micro_sketch.proofs.Boundaries.{entry_among}
use Rattle.micro_sketch.proofs.Runs.{exec_sim}
use Rattle.micro_sketch.proofs.Costs.{within_greatest}
use Rattle.micro_sketch.proofs.Stepping.{below_or_from, Ran-state}
use Rattle.micro_sketch.proofs.FirstBoundaries.{ComesAfter, Leads, Landed, Leads-comes, Leads-landed, comes_soon}

-- From x the machine comes to y, and there to a boundary.

pub done_run : (n k : ℕ) (guesses : List Bool) (x : Sketch) (e : Env) → Shaped n x → x.busy ≡ false → e.port ≡ 0 → IsDone (exec (suc k) guesses x) → Reaches n x (exec (suc k) guesses x) e
done_run n k guesses x e shape idle port done = exec_sim k guesses n x e shape (subst (λ b. PortFits b e) (sym idle) port) done.fine

pub leads : (n : ℕ) (x y : Sketch) (e : Env) (r : Reaches n x y e) → IsDone y → Leads r.cycles (scene n x e) (scene n y r.env)
leads n x y e r done = record { positive = r.positive; same = r.same; boundary = r.ending ∙ done.done; quiet = r.quiet }

-- that boundary comes soon where the cost is small
pub comes_to_boundary : (p : CostParams) (address c n : ℕ) (x y : Sketch) (e : Env) (s : MachineState) → s ≡ conc n x e → StartsAt p address x e → Reaches n x y e → IsDone y
    → IsGreatestTime p address c → c + stalls y p.r < 2 ^ 62 → ComesToBoundary s x.answers
comes_to_boundary p address c n x y e s same starts r done greatest few =
    let most = within_greatest p address c n x y e starts r done greatest in
    let P : MachineState → Type 0 = λ z. ComesToBoundary z x.answers in
    subst P (sym same) (comes_soon r.cycles (conc n x e) x.answers (omega (arith, most, few)) (Leads-comes r.cycles (scene n x e) (scene n y r.env) (leads n x y e r done)))

-- a machine that has come to its next boundary stands as y, where its device gave answers that x expected
pub arrives : (n : ℕ) (x y : Sketch) (e : Env) (old new : MachineState) (t0 t1 : Told) → old ≡ conc n x e → (r : Reaches n x y e) → IsDone y
    → (far : Arrived old new t0 t1) (more : List (Option ℕ)) → x.answers ≡ far.answers ++ more → Landed old new t0 t1 far more x.output r.cycles (scene n y r.env)
arrives n x y e old new t0 t1 same r done far more answered =
    let P : MachineState → Type 0 = λ z. Leads r.cycles (record { state = z; answers = far.answers ++ more; output = x.output }) (scene n y r.env) in
    let Q : List (Option ℕ) → Type 0 = λ z. Leads r.cycles (record { state = conc n x e; answers = z; output = x.output }) (scene n y r.env) in
    Leads-landed r.cycles old new t0 t1 far more x.output (scene n y r.env) (subst P (sym same) (subst Q answered (leads n x y e r done)))

-- Where a run leaves the answers and the output as they are, no cycle on its way asks for input or puts a byte out.

run-output_length : (k : ℕ) (c : Scene) → length c.output ≤ length (run k c).output
run-output_length zero c = omega arith
run-output_length (suc k) c = omega (arith, run-output_length k (next_scene c), length-append (output_of c.state) c.output)

run-past : (i k : ℕ) (c : Scene) → i < k → run k c ≡ run (k - suc i) (next_scene (run i c))
run-past i k c below =
    let whole : k ≡ i + suc (k - suc i) = omega (arith, below) in
    ap (λ j. run j c) whole ∙ run-add i (suc (k - suc i)) c

pub asking_takes_one : (i k : ℕ) (c : Scene) (answer : Option ℕ) (rest : List (Option ℕ)) → i < k → (run i c).answers ≡ answer ∷ rest → asks_input (run i c).state ≡ true
    → length (run k c).answers < length c.answers
asking_takes_one i k c answer rest below answers asks =
    let left : (next_scene (run i c)).answers ≡ rest = ap (λ b. left_over b (run i c).answers) asks ∙ ap (λ (z : List (Option ℕ)). left_over true z) answers in
    omega (
      arith,
      run-length i c,
      run-length (k - suc i) (next_scene (run i c)),
      ap (λ (z : Scene). length z.answers) (run-past i k c below),
      ap (λ (z : List (Option ℕ)). length z) left,
      ap (λ (z : List (Option ℕ)). length z) answers,
    )

some_length : (xs : List ℕ) → xs ≢ [] → 0 < length xs
some_length [] some = absurd (some refl)
some_length (x ∷ xs) some = omega arith

pub putting_adds_one : (i k : ℕ) (c : Scene) → i < k → output_of (run i c).state ≢ [] → length c.output < length (run k c).output
putting_adds_one i k c below puts =
    omega (
      arith,
      run-output_length i c,
      run-output_length (k - suc i) (next_scene (run i c)),
      ap (λ (z : Scene). length z.output) (run-past i k c below),
      length-append (output_of (run i c).state) (run i c).output,
      some_length (output_of (run i c).state) puts,
    )

-- a run that a fault cut short was on its way to the boundary
pub broke_before : (cycles m : ℕ) (old new : MachineState) (t0 t1 : Told) (answers more : List (Option ℕ)) → RanCycles m old new t0 t1 answers → HasNoBoundary (suc m) old answers
    → ComesAfter cycles old (answers ++ more) → m < cycles
broke_before cycles m old new t0 t1 answers more ran quiet comes =
    ⊎_elim
    (λ early. early)
    (λ late.
    let R : ℕ → Type 0 = λ k. RanCycles k old new t0 t1 answers in
    let positive = comes.positive in
    let place : suc (pred cycles) ≡ cycles = omega (arith, positive) in
    let whole : m ≡ cycles + (m - cycles) = omega (arith, late) in
    let none : at_boundary (run cycles (begun old answers)).state ≡ false =
    ap (λ k. at_boundary (run k (begun old answers)).state) (sym place) ∙ quiet (pred cycles) (omega (arith, place, late)) in
    let clash : true ≡ false = sym comes.holds ∙ ap at_boundary (Ran-state cycles (m - cycles) old new t0 t1 answers (subst R whole ran) more) ∙ none in
    cc)
    (below_or_from m cycles)

-- the fault of a call that a run doesn't make
pub reads_nothing : ReadsNothing
reads_nothing n x e old new t0 t1 same none takes broke =
    let all = broke.answers ++ None ∷ [] in
    let t = takes all in
    let s = t.run in
    let c = begun old all in
    let P : MachineState → Type 0 = λ z. (ComesAfter s.reaches.cycles z all) × ((run s.reaches.cycles (record { state = z; answers = all; output = x.output })).answers ≡ all) in
    let there = subst P (sym same) (
      Leads-comes s.reaches.cycles (scene n (expecting all x) e) (scene n s.after s.reaches.env) (leads n (expecting all x) s.after e s.reaches s.done),
      ap (λ (z : Scene). z.answers) s.reaches.same ∙ t.answers,
    ) in
    let Q : List ℕ → Type 0 = λ z. (run s.reaches.cycles (record { state = old; answers = all; output = z })).answers ≡ all in
    let kept : (run s.reaches.cycles c).answers ≡ all = subst Q none there.1 in
    let before = broke_before s.reaches.cycles broke.cycles old new t0 broke.before broke.answers (None ∷ []) broke.ran broke.quiet there.0 in
    let fewer = asking_takes_one broke.cycles s.reaches.cycles c None [] before (broke.ran.left (None ∷ [])) (ap (λ (z : MachineState). asks_input z) (broke.ran.state (None ∷ [])) ∙ broke.tried.4) in
    absurd (omega (arith, fewer, ap (λ (z : List (Option ℕ)). length z) kept))

pub writes_nothing : WritesNothing
writes_nothing n x e old new t0 t1 same none puts broke =
    let all = broke.answers ++ [] in
    let t = puts all in
    let s = t.run in
    let c = begun old all in
    let P : MachineState → Type 0 = λ z. (ComesAfter s.reaches.cycles z all) × ((run s.reaches.cycles (record { state = z; answers = all; output = x.output })).output ≡ x.output) in
    let there = subst P (sym same) (
      Leads-comes s.reaches.cycles (scene n (expecting all x) e) (scene n s.after s.reaches.env) (leads n (expecting all x) s.after e s.reaches s.done),
      ap (λ (z : Scene). z.output) s.reaches.same ∙ t.output,
    ) in
    let Q : List ℕ → Type 0 = λ z. (run s.reaches.cycles (record { state = old; answers = all; output = z })).output ≡ z in
    let kept : (run s.reaches.cycles c).output ≡ [] = subst Q none there.1 in
    let before = broke_before s.reaches.cycles broke.cycles old new t0 broke.before broke.answers [] broke.ran broke.quiet there.0 in
    let more = putting_adds_one broke.cycles s.reaches.cycles c before (λ empty. broke.tried.4 (ap (λ (z : MachineState). output_of z) (sym (broke.ran.state [])) ∙ empty)) in
    absurd (omega (arith, more, ap (λ (z : List ℕ). length z) kept))

-- and a step that comes to the next boundary so took no answer
pub silent_takes_nothing : (n : ℕ) (x : Sketch) (e : Env) (old new : MachineState) (t0 t1 : Told) → old ≡ conc n x e
    → AlwaysSilent n x e → (far : Arrived old new t0 t1) → far.answers ≡ []
silent_takes_nothing n x e old new t0 t1 same silent far =
    let s = silent far.answers in
    let landed = arrives n (expecting far.answers x) s.after e old new t0 t1 same s.reaches s.done far [] (sym (append-nil far.answers)) in
    sym s.answers ∙ landed.answers_left

empty_before : (out before : List ℕ) → reverse out ++ before ≡ before → out ≡ []
empty_before [] before h = refl
empty_before (x ∷ out) before h = absurd (omega (arith, ap (λ (z : List ℕ). length z) h, length-append (reverse (x ∷ out)) before, length-reverse (x ∷ out)))

-- and put nothing out
pub silent_puts_nothing : (n : ℕ) (x : Sketch) (e : Env) (old new : MachineState) (t0 t1 : Told) → old ≡ conc n x e
    → AlwaysSilent n x e → (far : Arrived old new t0 t1) → output_during far.cycles (begun old far.answers) ≡ []
silent_puts_nothing n x e old new t0 t1 same silent far =
    let s = silent far.answers in
    let landed = arrives n (expecting far.answers x) s.after e old new t0 t1 same s.reaches s.done far [] (sym (append-nil far.answers)) in
    empty_before (output_during far.cycles (begun old far.answers)) x.output (sym landed.output_is ∙ s.output)

-- an opcode's entry is never that of the raise routine
pub no_entry_raises : (op : ℕ) → entry_of op ≢ RAISE
no_entry_raises op same =
    let found : among RAISE ENTRIES ≡ true = ap (λ k. among k ENTRIES) (sym same) ∙ entry_among op in
    let none : among RAISE ENTRIES ≡ false = refl in
    let clash : true ≡ false = sym found ∙ none in cc
