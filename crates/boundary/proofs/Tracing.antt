-- A traced run, boundary by boundary.
use Rattle.std.proofs.Common.{◌≡◌, ℕ, ◌<◌, ◌≤◌, Bool, List, [], ◌++◌, Option, None, Ok, Err, refl, sym, ◌∙◌, ap, subst, arith, ◌⊎◌}
use Rattle.std.specs.declared.result.Result.{Result}
use Rattle.device_traits.specs.declared.fault.DeviceFault.{DeviceFault}
use Rattle.device_traits.specs.declared.fault.DeviceFault.TheVariants as faults
use Rattle.std.specs.List.{flat_map}
use Rattle.outside.specs.Outside.{Grew}
use Rattle.outside.specs.Growing.{Grew-refl, Grew-trans}
use Rattle.jop_core.specs.State as machine
use Rattle.jop_core.specs.Keeps.{CyclesKeep}
use Rattle.jop_core.specs.Scene.{begun, notes_during}
use Rattle.device_traits.specs.declared.seen.Seen.{Seen}
use Rattle.device_traits.specs.Told.{Told, DeviceNote, silent, Attended, GivesEach}
use Rattle.micro_sketch.specs.Step.{RanCycles}
use Rattle.micro_sketch.specs.StepLaws.{AreRunLaws}
use Rattle.run_devices.specs.Lines.{note_line}
use Rattle.run_devices.specs.Traced.{LineIsPut, PutsLine}
use Rattle.bytecode_model.specs.State.{State}
use Rattle.bytecode_typing.specs.Fits as states
use Rattle.boundary.specs.declared.answer.Boundary.{Boundary}
use Rattle.boundary.specs.declared.answer.Boundary.TheVariants as answers
use Rattle.boundary.specs.Answers.{answer_of}
use Rattle.boundary.specs.declared.runs.RunEnd.TheVariants as ends
use Rattle.boundary.specs.Runs.{IsEnd}
use Rattle.image_facts.specs.Methods.{AreMethods}
use Rattle.boundary.specs.Setting.{Setting, Stands}
use Rattle.boundary.specs.Session.{Session, IsStateOf}
use Rattle.boundary.specs.Activations.{Stage}
use Rattle.boundary.specs.Advances.{Advances, ReachesBoundary, StepsTo}
use Rattle.boundary.specs.Traces.{unnoted, run_text, stage_line, IsTraced, TracesOn, AfterLine, AtBoundary, AtWrite, StepTraces, StepTracesAll, TracesTo}
use Rattle.boundary.proofs.Keeping.{going_mode}
use Rattle.boundary.proofs.Whole.{goes_so, ended_mode, uncaught_mode, run_none, run_more}

-- ---- a step on a device that writes nothing of what it notes

untold : {A : Type 0} (more : List A) → Grew {A = A} None None more
untold more = record { grown = λ ys e. absurd (cc) }

attended_unnoted : (t0 t1 t2 : Told) (line : List ℕ) (answers : List (Option ℕ)) (out : List ℕ) (seen : List Seen) (notes : List DeviceNote) → LineIsPut t0 t1 line → Attended t1 t2 answers out seen notes → Attended (unnoted t0) (unnoted t2) answers out seen notes
attended_unnoted t0 t1 t2 line answers out seen notes put h = record {
  left = subst (λ (left : Option (List ℕ)). GivesEach left t2.left answers) put.rests.left h.left;
  held = Grew-trans t0.held t1.held t2.held [] out out put.rests.held h.held refl;
  noted = record { line = refl; written = untold (flat_map silent notes) };
  handed = Grew-trans t0.handed t1.handed t2.handed [] seen seen put.rests.handed h.handed refl;
  counts = record {
    reads = omega (arith, put.rests.counts.reads, h.counts.reads);
    writes = omega (arith, put.rests.counts.writes, h.counts.writes);
    sees = omega (arith, put.rests.counts.sees, h.counts.sees);
  };
}

ran_unnoted : (cycles : ℕ) (old new : machine.MachineState) (t0 t1 t2 : Told) (line : List ℕ) (answers : List (Option ℕ)) → LineIsPut t0 t1 line → RanCycles cycles old new t1 t2 answers → RanCycles cycles old new (unnoted t0) (unnoted t2) answers
ran_unnoted cycles old new t0 t1 t2 line answers put ran = record { state = ran.state; left = ran.left; device = attended_unnoted t0 t1 t2 line answers _ _ _ put ran.device }

abbrev advances_unnoted : (g : Setting) (s : State) (old new : machine.MachineState) (t0 t1 t2 : Told) (line : List ℕ) → LineIsPut t0 t1 line → Advances g s old new t1 t2 → Advances g s old new (unnoted t0) (unnoted t2)
advances_unnoted g s old new t0 t1 t2 line put v = record {
  answer = v.answer;
  byte = v.byte;
  next = v.next;
  is_next = v.is_next;
  fits = v.fits;
  comes = v.comes;
  answer_is = v.answer_is;
  new_is = v.new_is;
  ran = ran_unnoted v.comes.cycles old new t0 t1 t2 line v.comes.answers put v.ran;
}

-- ---- the run

-- a boundary with its machine by another name
stage_is : (b : Stage) (now : machine.MachineState) → b.machine ≡ now → b ≡ record { machine = now; state = b.state }
stage_is b now e = ap (λ (m : machine.MachineState). let c : Stage = record { machine = m; state = b.state } in c) e

-- the traced run goes on
abbrev pub Far : (cycles : Bool) → (names : List (List ℕ)) → (g : Setting) → (limit : ℕ) → (a : Stage) → (now : machine.MachineState) → (told told' : Told) → Type 0
Far cycles names g limit a now told told' = TracesOn cycles names g limit a now told told' (λ s. states.IsGoing s.mode)

module _ (laws : AreRunLaws) (keep : CyclesKeep) (cycles : Bool) (names : List (List ℕ)) (g : Setting) (limit : ℕ) where
  pub traced_none : (a : Stage) (told : Told) → Stands g a.machine a.state → IsTraced cycles names g limit a a told told
  unfolding run_none
  traced_none a told stage = record { run = run_none laws keep g limit a (unnoted told) stage; line = refl; text = Grew-refl told.noted }

  -- one step more, with its line
  traced_more : (a b : Stage) (new : machine.MachineState) (t0 t1 t2 t3 : Told) → IsTraced cycles names g limit a b t0 t1 → t1.line ≡ note_line cycles → states.IsGoing b.state.mode → b.machine.clock < limit → LineIsPut t1 t2 (stage_line names g b) → (v : Advances g b.state b.machine new t2 t3)
      → IsTraced cycles names g limit a (record { machine = new; state = v.next }) t0 t3
  unfolding run_more
  traced_more a b new t0 t1 t2 t3 r shown going below put v =
      let notes = notes_during v.comes.cycles (begun b.machine v.comes.answers) in
      let before = run_text cycles names g limit a r.run.steps b r.run.stages in
      let lines : t2.line ≡ note_line cycles = put.rests.line ∙ shown in
      let written : Grew t2.noted t3.noted (flat_map (note_line cycles) notes) = subst (λ (line : DeviceNote → List ℕ). Grew t2.noted t3.noted (flat_map line notes)) lines v.ran.device.noted.written in
      let step : Grew t1.noted t3.noted (stage_line names g b ++ flat_map (note_line cycles) notes) = Grew-trans t1.noted t2.noted t3.noted _ _ _ put.noted written refl in
      record {
        run = run_more laws keep g limit a b new (unnoted t0) (unnoted t1) (unnoted t3) r.run going below (advances_unnoted g b.state b.machine new t1 t2 t3 (stage_line names g b) put v);
        line = v.ran.device.noted.line ∙ put.rests.line ∙ r.line;
        text = Grew-trans t0.noted t1.noted t3.noted before _ _ r.text step refl;
      }

  pub far_none : (a : Stage) (told : Told) → Stands g a.machine a.state → states.IsGoing a.state.mode → Far cycles names g limit a a.machine told told
  far_none a told stage going = record { last = a; now_is = refl; traced = traced_none a told stage; holds = going }

  module _ (a : Stage) (now new : machine.MachineState) (t0 t1 t2 : Told) (shown : t0.line ≡ note_line cycles) (far : Far cycles names g limit a now t0 t1) (below : now.clock < limit) where
    here : Stands g now far.last.state
    here = subst (λ m. Stands g m far.last.state) far.now_is far.traced.run.stands

    under : far.last.machine.clock < limit
    under = omega (arith, below, ap (λ (m : machine.MachineState). m.clock) far.now_is)

    -- by what is said of a step from each state for which the machine stands
    abbrev AllSteps : Result Boundary DeviceFault → Type 0
    AllSteps answer = (s : State) → Stands g now s → StepTraces names g (record { machine = now; state = s }) new t1 t2 answer

    from_last : (answer : Result Boundary DeviceFault) → AllSteps answer → StepTraces names g far.last new t1 t2 answer
    from_last answer steps = subst (λ (b : Stage). StepTraces names g b new t1 t2 answer) (sym (stage_is far.last now far.now_is)) (steps far.last.state here)

    reach : (K : State → Type 0) (answer : Boundary) (w : AfterLine names g far.last new t1 t2 (λ s old m before after. ReachesBoundary g s old m before after answer)) → K w.holds.0.next → TracesOn cycles names g limit a new t0 t2 K
    reach K answer w holds = record {
      last = record { machine = new; state = w.holds.0.next };
      now_is = refl;
      traced = traced_more a far.last new t0 t1 w.begun t2 far.traced (far.traced.line ∙ shown) far.holds under w.line w.holds.0;
      holds = holds;
    }

    pub far_on : (answer : Boundary) → (answer ≡ answers.Bytecode) ⊎ (answer ≡ answers.Raise) → AllSteps (Ok answer) → Far cycles names g limit a new t0 t2
    far_on answer on steps =
        let w = from_last (Ok answer) steps in
        reach (λ s. states.IsGoing s.mode) answer w (going_mode w.holds.0.next.mode answer w.holds.1 (goes_so answer on))

    pub far_ended : (answer : Boundary) → answer ≡ answers.Halted → AllSteps (Ok answer) → TracesTo cycles names g limit a new t0 t2 (Ok ends.Ended)
    far_ended answer is steps = let w = from_last (Ok answer) steps in reach (IsEnd limit new ends.Ended) answer w (ended_mode w.holds.0.next.mode (w.holds.1 ∙ is))

    pub far_uncaught : (answer : Boundary) (class : ℕ) → answer ≡ answers.Uncaught class → AllSteps (Ok answer) → TracesTo cycles names g limit a new t0 t2 (Ok (ends.Uncaught class))
    far_uncaught answer class is steps = let w = from_last (Ok answer) steps in reach (IsEnd limit new (ends.Uncaught class)) answer w (uncaught_mode w.holds.0.next.mode class (w.holds.1 ∙ is))

    pub far_broken : (fault : DeviceFault) → AllSteps (Err fault) → TracesTo cycles names g limit a new t0 t2 (Err fault)
    far_broken fault steps = record { last = far.last; before = t1; traced = far.traced; going = far.holds; below = under; fails = from_last (Err fault) steps }

  -- the limit is come to
  pub far_spent : (a : Stage) (now : machine.MachineState) (t0 t1 : Told) → Far cycles names g limit a now t0 t1 → limit ≤ now.clock → TracesTo cycles names g limit a now t0 t1 (Ok ends.Spent)
  far_spent a now t0 t1 far past = record { last = far.last; now_is = far.now_is; traced = far.traced; holds = (far.holds, past) }

  -- ---- a machine that has halted

  pub ended_at_once : (a : Stage) (told : Told) → Stands g a.machine a.state → answer_of a.state.mode ≡ answers.Halted → TracesTo cycles names g limit a a.machine told told (Ok ends.Ended)
  ended_at_once a told stage is = record { last = a; now_is = refl; traced = traced_none a told stage; holds = ended_mode a.state.mode is }

  pub uncaught_at_once : (a : Stage) (told : Told) (class : ℕ) → Stands g a.machine a.state → answer_of a.state.mode ≡ answers.Uncaught class → TracesTo cycles names g limit a a.machine told told (Ok (ends.Uncaught class))
  uncaught_at_once a told class stage is = record { last = a; now_is = refl; traced = traced_none a told stage; holds = uncaught_mode a.state.mode class is }

-- ---- one step

-- a line that isn't put is one that failed
pub line_failed : (names : List (List ℕ)) (g : Setting) (a : Stage) (t0 t1 : Told) (fault : DeviceFault) → PutsLine {T = ℕ} t0 t1 (stage_line names g a) (Err fault) → StepTraces names g a a.machine t0 t1 (Err fault)
line_failed names g a t0 t1 faults.Input put = absurd put
line_failed names g a t0 t1 faults.Output put = AtBoundary refl put
line_failed names g a t0 t1 faults.Seen put = absurd put

-- a step behind its line
pub step_traced : (names : List (List ℕ)) (g : Setting) (a : Stage) (now : machine.MachineState) (t0 t1 t2 : Told) (answer : Result Boundary DeviceFault) → LineIsPut t0 t1 (stage_line names g a) → StepsTo g a.state a.machine now t1 t2 answer
    → StepTraces names g a now t0 t2 answer
step_traced names g a now t0 t1 t2 (Ok answer) line step = record { begun = t1; line = line; holds = step }
step_traced names g a now t0 t1 t2 (Err faults.Input) line step = record { begun = t1; line = line; holds = step }
step_traced names g a now t0 t1 t2 (Err faults.Output) line step = AtWrite (record { begun = t1; line = line; holds = step })
step_traced names g a now t0 t1 t2 (Err faults.Seen) line step = record { begun = t1; line = line; holds = step }

-- what is said of a step, at a state for which a run's machine stands
pub all_steps : (names : List (List ℕ)) (g : Setting) (s : State) (first r : Session) (new : machine.MachineState) (t0 t1 : Told) (answer : Result Boundary DeviceFault) → r.methods ≡ first.methods → IsStateOf g first.methods first.machine s → StepTracesAll names r new t0 t1 answer
    → (t : State) → Stands g r.machine t → StepTraces names g (record { machine = r.machine; state = t }) new t0 t1 answer
unfolding StepTracesAll
all_steps names g s first r new t0 t1 answer same is steps t stands =
    steps g t (record { is_setting = is.is_setting; methods_are = subst (λ methods. AreMethods g.program g.places methods) (sym same) is.methods_are; stands = stands })
