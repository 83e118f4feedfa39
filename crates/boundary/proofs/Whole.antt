-- A run, boundary by boundary.
use Rattle.std.proofs.Common.{◌≡◌, ℕ, suc, ◌+◌, ◌<◌, ◌≤◌, true, false, List, [], ◌++◌, Option, Ok, Err, refl, sym, ◌∙◌, ap, subst, arith, add-zero, append-nil, append_assoc, ◌⊎◌, inl, inr, ⊎_elim}
use Rattle.std.specs.Prelude.{IfOk}
use Rattle.std.specs.declared.result.Result.{Result}
use Rattle.device_traits.specs.declared.fault.DeviceFault.{DeviceFault}
use Rattle.jop_core.specs.State as machine
use Rattle.jop_core.specs.Keeps.{CyclesKeep}
use Rattle.jop_core.specs.Scene.{Scene, begun, run, output_during}
use Rattle.device_traits.specs.Told.{Told}
use Rattle.micro_sketch.specs.Step.{RanCycles}
use Rattle.micro_sketch.specs.StepLaws.{AreRunLaws, after_output}
use Rattle.bytecode_model.specs.declared.Ending.{Ending}
use Rattle.bytecode_model.specs.declared.Ending.TheVariants as modes
use Rattle.bytecode_model.specs.State.{State}
use Rattle.bytecode_model.specs.Steps.{run_from}
use Rattle.bytecode_typing.specs.Fits.{IsGoing}
use Rattle.machine_stands.specs.StandsFor.{StandsFor}
use Rattle.boundary.specs.declared.answer.Boundary.{Boundary}
use Rattle.boundary.specs.declared.answer.Boundary.TheVariants as answers
use Rattle.boundary.specs.Answers.{answer_of, is_going, goes_on, HasFrames as GoesOn}
use Rattle.boundary.specs.declared.runs.RunEnd.TheVariants as ends
use Rattle.boundary.specs.Setting.{Setting, IsSetting, Stands}
use Rattle.boundary.specs.Session.{AllGoOnSo}
use Rattle.boundary.specs.Activations.{Stage, Follows}
use Rattle.boundary.specs.Advances.{Advances, StepsTo, FailsOnDevice}
use Rattle.boundary.specs.Runs.{Goes, IsRun, RunsOn, IsEnd, RunsTo}
use Rattle.boundary.proofs.Answered.{reached}
use Rattle.boundary.proofs.Keeping.{going_mode}
use Rattle.boundary.proofs.Lasting.{clock_after}

scene_is : (c : Scene) (s : machine.MachineState) (answers : List (Option ℕ)) → c.state ≡ s → c.answers ≡ answers → c ≡ after_output c.output (begun s answers)
scene_is c s answers states answered =
    let P : machine.MachineState → Type 0 = λ z. c ≡ record { state = z; answers = c.answers; output = c.output } in
    let Q : List (Option ℕ) → Type 0 = λ z. c ≡ record { state = s; answers = z; output = c.output } in
    subst Q answered (subst P states refl)

pub ended_mode : (mode : Ending) → answer_of mode ≡ answers.Halted → mode ≡ modes.Ended
ended_mode modes.Running h = absurd (cc)
ended_mode (modes.Raising p) h = absurd (cc)
ended_mode modes.Ended h = refl
ended_mode (modes.Uncaught c) h = absurd (cc)

pub uncaught_mode : (mode : Ending) (class : ℕ) → answer_of mode ≡ answers.Uncaught class → mode ≡ modes.Uncaught class
uncaught_mode modes.Running class h = absurd (cc)
uncaught_mode (modes.Raising p) class h = absurd (cc)
uncaught_mode modes.Ended class h = absurd (cc)
uncaught_mode (modes.Uncaught c) class h = let same : c ≡ class = cc in ap (λ (k : ℕ). modes.Uncaught k) same

pub goes_so : (answer : Boundary) → (answer ≡ answers.Bytecode) ⊎ (answer ≡ answers.Raise) → is_going answer ≡ true
goes_so answer going = ⊎_elim (λ e. ap is_going e) (λ e. ap is_going e) going

pub mode_goes : (mode : Result Boundary DeviceFault) → GoesOn mode → goes_on mode ≡ true
mode_goes mode going = ⊎_elim (λ e. ap goes_on e) (λ e. ap goes_on e) going

-- a run that has come to a boundary at which the machine goes on
pub goes_from : (mode : Result Boundary DeviceFault) (answer : Boundary) → mode ≡ Ok answer → (answer ≡ answers.Bytecode) ⊎ (answer ≡ answers.Raise) → GoesOn mode
goes_from mode answer is going = let M : Boundary → Type 0 = λ b. mode ≡ Ok b in ⊎_elim (λ e. inl (subst M e is)) (λ e. inr (subst M e is)) going

-- all states are going for which it is read
pub state_goes : (mode read : Result Boundary DeviceFault) → GoesOn mode → read ≡ mode → (m : machine.MachineState) → IfOk read (AllGoOnSo m) → (g : Setting) (s : State) → IsSetting g → Stands g m s → IsGoing s.mode
state_goes mode (Ok answer) going is m all g s is_g stands = going_mode s.mode answer (all g s is_g stands) (ap goes_on is ∙ mode_goes mode going)
state_goes mode (Err fault) going is m all g s is_g stands = let clash : false ≡ true = ap goes_on is ∙ mode_goes mode going in absurd (cc)

-- the run goes on
abbrev pub Far : (g : Setting) → (limit : ℕ) → (a : Stage) → (now : machine.MachineState) → (told told' : Told) → Type 0
Far g limit a now told told' = RunsOn g limit a now told told' (λ s. IsGoing s.mode)

module _ (laws : AreRunLaws) (keep : CyclesKeep) where
  -- what two runs, one behind the other, put out
  pub output_adds : (m n : ℕ) (old mid : machine.MachineState) (t0 t1 : Told) (earlier later : List (Option ℕ)) → RanCycles m old mid t0 t1 earlier
      → output_during (m + n) (begun old (earlier ++ later)) ≡ output_during m (begun old earlier) ++ output_during n (begun mid later)
  output_adds m n old mid t0 t1 earlier later ran =
      let c = begun old (earlier ++ later) in
      let uses : (more : List (Option ℕ)) → (run (m + 0) (begun old (earlier ++ more))).answers ≡ more = λ more. ap (λ k. (run k (begun old (earlier ++ more))).answers) (add-zero m) ∙ ran.left more in
      laws.output_adds m n c
      ∙ ap (λ (out : List ℕ). out ++ output_during n (run m c)) (laws.output_followed m 0 (begun old earlier) uses later)
      ∙ ap (λ (d : Scene). output_during m (begun old earlier) ++ output_during n d) (scene_is (run m c) mid later (ran.state later) (ran.left later))
      ∙ ap (λ (out : List ℕ). output_during m (begun old earlier) ++ out) (laws.output_after_output n (run m c).output (begun mid later))

  unfoldable pub run_none : (g : Setting) (limit : ℕ) (a : Stage) (told : Told) → Stands g a.machine a.state → IsRun g limit a a told told
  unfolding run_from
  run_none g limit a told stage = record {
    steps = 0;
    stages = refl;
    reached = refl;
    stands = stage;
    cycles = 0;
    clock = omega arith;
    answers = [];
    ran = laws.ran_none a.machine told;
    took = sym (append-nil a.state.answers);
    put = sym (append-nil a.state.output) ∙ ap (λ (out : List ℕ). a.state.output ++ out) (sym (laws.output_of_none (begun a.machine [])));
  }

  -- one step more
  unfoldable pub run_more : (g : Setting) (limit : ℕ) (a b : Stage) (new : machine.MachineState) (t0 t1 t2 : Told) → IsRun g limit a b t0 t1 → IsGoing b.state.mode → b.machine.clock < limit → (v : Advances g b.state b.machine new t1 t2)
      → IsRun g limit a (record { machine = new; state = v.next }) t0 t2
  run_more g limit a b new t0 t1 t2 r going below v =
      let c : Stage = record { machine = new; state = v.next } in
      let follows : Follows g b c = record { stands = r.stands; answer = v.answer; byte = v.byte; is_next = v.is_next; comes = v.comes; new_is = v.new_is } in
      let stages : Goes g limit a (suc r.steps) c = (b, r.stages, going, below, follows) in
      let ran = laws.ran_adds r.cycles v.comes.cycles a.machine b.machine new t0 t1 t2 r.answers v.comes.answers r.ran v.ran in
      let S : machine.MachineState → Type 0 = λ m. StandsFor g.program g.places g.chip g.memory m v.next in
      record {
        steps = suc r.steps;
        stages = stages;
        reached = reached g limit a (suc r.steps) c stages _ (λ k h. refl);
        stands = record { stands = subst S v.new_is v.comes.stands; fits = v.fits };
        cycles = r.cycles + v.comes.cycles;
        clock = omega (arith, ap (λ (m : machine.MachineState). m.clock) (ran.state []), clock_after keep (r.cycles + v.comes.cycles) (begun a.machine ((r.answers ++ v.comes.answers) ++ [])));
        answers = r.answers ++ v.comes.answers;
        ran = ran;
        took = v.comes.took ∙ ap (λ (xs : List (Option ℕ)). xs ++ v.comes.answers) r.took ∙ append_assoc a.state.answers r.answers v.comes.answers;
        put = v.comes.put ∙ ap (λ (out : List ℕ). out ++ output_during v.comes.cycles (begun b.machine v.comes.answers)) r.put
            ∙ append_assoc a.state.output (output_during r.cycles (begun a.machine r.answers)) (output_during v.comes.cycles (begun b.machine v.comes.answers))
            ∙ ap (λ (out : List ℕ). a.state.output ++ out) (sym (output_adds r.cycles v.comes.cycles a.machine b.machine t0 t1 r.answers v.comes.answers r.ran));
      }

  -- ---- from the machine that the run has come to

  pub far_none : (g : Setting) (limit : ℕ) (a : Stage) (told : Told) → Stands g a.machine a.state → IsGoing a.state.mode → Far g limit a a.machine told told
  far_none g limit a told stage going = record { last = a; now_is = refl; run = run_none g limit a told stage; holds = going }

  module _ (g : Setting) (limit : ℕ) (a : Stage) (now new : machine.MachineState) (t0 t1 t2 : Told) (far : Far g limit a now t0 t1) (below : now.clock < limit) where
    here : Stands g now far.last.state
    here = subst (λ m. Stands g m far.last.state) far.now_is far.run.stands

    under : far.last.machine.clock < limit
    under = omega (arith, below, ap (λ (m : machine.MachineState). m.clock) far.now_is)

    -- by what is said of a step from each state for which the machine stands
    abbrev AllSteps : Result Boundary DeviceFault → Type 0
    AllSteps answer = (s : State) → Stands g now s → StepsTo g s now new t1 t2 answer

    reach : (K : State → Type 0) (v : Advances g far.last.state now new t1 t2) → K v.next → RunsOn g limit a new t0 t2 K
    reach K v holds =
        let V : machine.MachineState → Type 0 = λ m. (w : Advances g far.last.state m new t1 t2) → K w.next → RunsOn g limit a new t0 t2 K in
        subst V far.now_is (λ w k. record { last = record { machine = new; state = w.next }; now_is = refl; run = run_more g limit a far.last new t0 t1 t2 far.run far.holds under w; holds = k }) v holds

    pub far_on : (answer : Boundary) → (answer ≡ answers.Bytecode) ⊎ (answer ≡ answers.Raise) → AllSteps (Ok answer) → Far g limit a new t0 t2
    far_on answer on steps = let r = steps far.last.state here in reach (λ s. IsGoing s.mode) r.0 (going_mode r.0.next.mode answer r.1 (goes_so answer on))

    pub far_ended : (answer : Boundary) → answer ≡ answers.Halted → AllSteps (Ok answer) → RunsTo g limit a new t0 t2 (Ok ends.Ended)
    far_ended answer is steps = let r = steps far.last.state here in reach (IsEnd limit new ends.Ended) r.0 (ended_mode r.0.next.mode (r.1 ∙ is))

    pub far_uncaught : (answer : Boundary) (class : ℕ) → answer ≡ answers.Uncaught class → AllSteps (Ok answer) → RunsTo g limit a new t0 t2 (Ok (ends.Uncaught class))
    far_uncaught answer class is steps = let r = steps far.last.state here in reach (IsEnd limit new (ends.Uncaught class)) r.0 (uncaught_mode r.0.next.mode class (r.1 ∙ is))

    pub far_broken : (fault : DeviceFault) → AllSteps (Err fault) → RunsTo g limit a new t0 t2 (Err fault)
    far_broken fault fails = record {
      last = far.last;
      before = t1;
      run = far.run;
      going = far.holds;
      below = under;
      fails = subst (λ m. FailsOnDevice g fault far.last.state m new t1 t2) (sym far.now_is) (fails far.last.state here);
    }

-- the limit is come to
pub far_spent : (g : Setting) (limit : ℕ) (a : Stage) (now : machine.MachineState) (t0 t1 : Told) → Far g limit a now t0 t1 → limit ≤ now.clock → RunsTo g limit a now t0 t1 (Ok ends.Spent)
far_spent g limit a now t0 t1 far past = record { last = far.last; now_is = far.now_is; run = far.run; holds = (far.holds, past) }

-- a run of a machine that has halted
module _ (laws : AreRunLaws) (keep : CyclesKeep) where
  pub ended_at_once : (g : Setting) (limit : ℕ) (a : Stage) (told : Told) → Stands g a.machine a.state → answer_of a.state.mode ≡ answers.Halted → RunsTo g limit a a.machine told told (Ok ends.Ended)
  ended_at_once g limit a told stage is = record { last = a; now_is = refl; run = run_none laws keep g limit a told stage; holds = ended_mode a.state.mode is }

  pub uncaught_at_once : (g : Setting) (limit : ℕ) (a : Stage) (told : Told) (class : ℕ) → Stands g a.machine a.state → answer_of a.state.mode ≡ answers.Uncaught class → RunsTo g limit a a.machine told told (Ok (ends.Uncaught class))
  uncaught_at_once g limit a told class stage is = record { last = a; now_is = refl; run = run_none laws keep g limit a told stage; holds = uncaught_mode a.state.mode class is }
