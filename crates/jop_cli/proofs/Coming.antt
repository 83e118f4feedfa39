-- A run on which no call fails, from where it began to where it came, as an answer of the call.
use Rattle.std.proofs.Common.{◌≡◌, ℕ, ◌≤◌, Bool, List, [], ◌++◌, map, Option, Some, refl, sym, ◌∙◌, ap, subst}
use Rattle.std.specs.Prelude.{slice_get, Vec}
use Rattle.bytecode_model.specs.Types.{default}
use Rattle.std.specs.declared.alloc.Global.{Global}
use Rattle.lists.proofs.Lemmas.{onto_some, some_same}
use Rattle.class_pool.specs.declared.class.ClassFile.{ClassFile}
use Rattle.outside.specs.Outside.{Grew}
use Rattle.device_traits.specs.Told.{Told, GivesEach}
use Rattle.run_devices.specs.Traced.{traced}
use Rattle.jop_core.specs.State as machine
use Rattle.jop_core.specs.Scene.{begun, output_during}
use Rattle.bytecode_model.specs.declared.Ending.{Ending as Mode}
use Rattle.bytecode_model.specs.declared.Ending.TheVariants as modes
use Rattle.bytecode_model.specs.Program.{Program}
use Rattle.bytecode_model.specs.State.{State}
use Rattle.bytecode_model.specs.Steps.{boot_state, first_frame}
use Rattle.bytecode_typing.specs.Fits.{IsGoing}
use Rattle.boundary.specs.declared.runs.RunEnd.TheVariants as ends
use Rattle.boundary.specs.Setting.{Setting, IsSetting}
use Rattle.boundary.specs.Activations.{Stage}
use Rattle.boundary.specs.Runs.{IsRun, RunsOn, IsEnd}
use Rattle.boundary.specs.Traces.{TracesOn, unnoted, run_text}
use Rattle.run_devices.specs.Lent.{Lent, wired}
use Rattle.answer_lines.specs.declared.line.Counts.{Counts}
use Rattle.endings.specs.declared.outcome.Ending.TheVariants as endings
use Rattle.endings.specs.Show.{Shown, Output, Trace}
use Rattle.run_commands.specs.Run as run
use Rattle.run_commands.specs.Run.{AreCounts, Ran}
use Rattle.run_commands.specs.LinkedFile.{NamesClass}
use Rattle.jop_cli.specs.Calls.{Call}
use Rattle.jop_cli.specs.Courses.{AnswersMode, RanProgram, TracedProgram, RanShown}
use Rattle.jop_cli.proofs.Wholly.{IsWholly}

-- ---- the boot state has neither output nor answers

pub record IsFresh (s : State) : Type 0 where
  pub answers : s.answers ≡ []
  pub output : s.output ≡ []

pub boot_is_fresh : (P : Program) (s : State) → boot_state P ≡ Some s → IsFresh s
boot_is_fresh P s h =
    let (k, method, from_method) = onto_some (slice_get P.methods P.boot) _ s h in
    let (f, frame, is) = onto_some (first_frame P P.boot (map default k.parameters)) _ s from_method in
    of_some _ s is (record { answers = refl; output = refl })
  where
    of_some : (u t : State) → ◌≡◌ {A = Option State} (Some u) (Some t) → IsFresh u → IsFresh t
    of_some u t e fresh = subst IsFresh (some_same u t e) fresh

-- ---- the output and the answers of a run

module _ (g : Setting) (limit : ℕ) (reset : machine.MachineState) (boot : State) (fresh : IsFresh boot) (last : Stage) (told told' : Told) (run : IsRun g limit (record { machine = reset; state = boot }) last told told') where
  pub output_is : last.state.output ≡ output_during run.cycles (begun reset run.answers)
  output_is = run.put ∙ ap (λ (xs : List ℕ). xs ++ output_during run.cycles (begun reset run.answers)) fresh.output

  pub answers_are : last.state.answers ≡ run.answers
  answers_are = run.took ∙ ap (λ (xs : List (Option ℕ)). xs ++ run.answers) fresh.answers

  pub grown : Grew told.held told'.held last.state.output
  grown = subst (Grew told.held told'.held) (sym output_is) run.ran.device.held

  pub given : GivesEach told.left told'.left last.state.answers
  given = subst (GivesEach told.left told'.left) (sym answers_are) run.ran.device.left

-- ---- the answer at a state

module _ (c : Call) (cs : List ClassFile) (limit : ℕ) (now : machine.MachineState) (mode : Mode) (counts : Counts) (are : AreCounts counts now) where
  pub at_end : mode ≡ modes.Ended → IsWholly c (endings.Ended counts) → AnswersMode c cs limit now mode
  at_end is w = subst (AnswersMode c cs limit now) (sym is) (record { outcome = w.outcome; says = record { counts = counts; are = are; line = w.line } })

  pub at_uncaught : (class : ℕ) (name : Vec ℕ Global) → mode ≡ modes.Uncaught class → NamesClass cs class name.items → IsWholly c (endings.Uncaught class name counts) → AnswersMode c cs limit now mode
  at_uncaught class name is names w =
      subst (AnswersMode c cs limit now) (sym is) (record { outcome = w.outcome; name = name; names = names; says = record { counts = counts; are = are; line = w.line } })

pub at_spent : (c : Call) (cs : List ClassFile) (limit : ℕ) (now : machine.MachineState) (mode : Mode) (counts : Counts) → AreCounts counts now → IsGoing mode → limit ≤ now.clock → IsWholly c (endings.Spent counts) → AnswersMode c cs limit now mode
at_spent c cs limit now modes.Running counts are going late w = record { outcome = w.outcome; late = late; says = record { counts = counts; are = are; line = w.line } }
at_spent c cs limit now (modes.Raising p) counts are going late w = record { outcome = w.outcome; late = late; says = record { counts = counts; are = are; line = w.line } }
at_spent c cs limit now modes.Ended counts are going late w = absurd going
at_spent c cs limit now (modes.Uncaught class) counts are going late w = absurd going

-- ---- the whole

module _ (c : Call) (cs : List ClassFile) (g : Setting) (reset : machine.MachineState) (limit : ℕ) (old new : Lent) where
  -- the answer at each state of which this holds, of a machine that is at `now`
  abbrev Answering : (now : machine.MachineState) → (State → Type 0) → Type 0
  Answering now K = (last : Stage) → last.machine ≡ now → K last.state → AnswersMode c cs limit last.machine last.state.mode

  ran : IsSetting g → (boot : State) → boot_state g.program ≡ Some boot → (now : machine.MachineState) (K : State → Type 0) → RunsOn g limit (record { machine = reset; state = boot }) now (wired old) (wired new) K → Answering now K
      → RanProgram c cs g reset limit old new
  ran is_setting boot is_boot now K r answer =
      let fresh : IsFresh boot = boot_is_fresh g.program boot is_boot in
      record {
        is_setting = is_setting;
        boot = boot;
        is_boot = is_boot;
        last = r.last;
        run = r.run;
        output = grown g limit reset boot fresh r.last (wired old) (wired new) r.run;
        input = given g limit reset boot fresh r.last (wired old) (wired new) r.run;
        answers = answer r.last r.now_is r.holds;
      }

  abbrev begins : (cycles : Bool) → Told
  begins cycles = traced cycles old.left old.read_faults old.held old.write_faults old.write_faults

  noted : IsSetting g → (cycles : Bool) (names : List (List ℕ)) (boot : State) → boot_state g.program ≡ Some boot → (now : machine.MachineState) (K : State → Type 0) (after : Told)
      → TracesOn cycles names g limit (record { machine = reset; state = boot }) now (begins cycles) after K → after.left ≡ new.left → after.noted ≡ new.held → new.handed ≡ old.handed → Answering now K
      → TracedProgram c cs cycles names g reset limit old new
  noted is_setting cycles names boot is_boot now K after r left same watch answer =
      let fresh : IsFresh boot = boot_is_fresh g.program boot is_boot in
      record {
        is_setting = is_setting;
        boot = boot;
        is_boot = is_boot;
        last = r.last;
        after = after;
        run = r.traced.run;
        text = subst (λ (o : Option (List ℕ)). Grew old.held o (run_text cycles names g limit (record { machine = reset; state = boot }) r.traced.run.steps r.last r.traced.run.stages)) same r.traced.text;
        input = subst (λ (o : Option (List ℕ)). GivesEach old.left o r.last.state.answers) left (given g limit reset boot fresh r.last (unnoted (begins cycles)) (unnoted after) r.traced.run);
        watch = watch;
        answers = answer r.last r.now_is r.holds;
      }

  moved : (counts : Counts) (m now : machine.MachineState) → m ≡ now → AreCounts counts now → AreCounts counts m
  moved counts m now is are = subst (AreCounts counts) (sym is) are

  later : (m now : machine.MachineState) → m ≡ now → limit ≤ now.clock → limit ≤ m.clock
  later m now is late = subst (λ (x : machine.MachineState). limit ≤ x.clock) (sym is) late

  pub ended : (shown : Shown) (counts : Counts) → Ran shown g reset limit old new (run.ended ends.Ended counts) → IsWholly c (endings.Ended counts) → RanShown shown c cs g reset limit old new
  ended Output counts h w =
      let r = h.run in
      ran r.is_setting r.boot r.is_boot r.now (IsEnd limit r.now ends.Ended) r.runs (λ last is holds. at_end c cs limit last.machine last.state.mode counts (moved counts last.machine r.now is h.counts) holds w)
  ended (Trace cycles names) counts h w =
      let r = h.run in
      let t = r.runs in
      noted r.is_setting cycles names r.boot r.is_boot r.now (IsEnd limit r.now ends.Ended) t.after t.traces t.left t.noted t.watch (λ last is holds. at_end c cs limit last.machine last.state.mode counts (moved counts last.machine r.now is h.counts) holds w)

  pub uncaught : (shown : Shown) (class : ℕ) (name : Vec ℕ Global) (counts : Counts) → NamesClass cs class name.items → Ran shown g reset limit old new (run.ended (ends.Uncaught class) counts) → IsWholly c (endings.Uncaught class name counts)
      → RanShown shown c cs g reset limit old new
  uncaught Output class name counts names h w =
      let r = h.run in
      ran r.is_setting r.boot r.is_boot r.now (IsEnd limit r.now (ends.Uncaught class)) r.runs (λ last is holds. at_uncaught c cs limit last.machine last.state.mode counts (moved counts last.machine r.now is h.counts) class name holds names w)
  uncaught (Trace cycles texts) class name counts names h w =
      let r = h.run in
      let t = r.runs in
      noted r.is_setting cycles texts r.boot r.is_boot r.now (IsEnd limit r.now (ends.Uncaught class)) t.after t.traces t.left t.noted t.watch
      (λ last is holds. at_uncaught c cs limit last.machine last.state.mode counts (moved counts last.machine r.now is h.counts) class name holds names w)

  pub spent : (shown : Shown) (counts : Counts) → Ran shown g reset limit old new (run.ended ends.Spent counts) → IsWholly c (endings.Spent counts) → RanShown shown c cs g reset limit old new
  spent Output counts h w =
      let r = h.run in
      ran r.is_setting r.boot r.is_boot r.now (IsEnd limit r.now ends.Spent) r.runs
      (λ last is holds. at_spent c cs limit last.machine last.state.mode counts (moved counts last.machine r.now is h.counts) holds.0 (later last.machine r.now is holds.1) w)
  spent (Trace cycles names) counts h w =
      let r = h.run in
      let t = r.runs in
      noted r.is_setting cycles names r.boot r.is_boot r.now (IsEnd limit r.now ends.Spent) t.after t.traces t.left t.noted t.watch
      (λ last is holds. at_spent c cs limit last.machine last.state.mode counts (moved counts last.machine r.now is h.counts) holds.0 (later last.machine r.now is holds.1) w)
