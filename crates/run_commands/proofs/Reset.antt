-- A run of a bare image from reset.
use Rattle.std.proofs.Common.{◌≡◌, ℕ, zero, suc, ◌<◌, ◌≤◌, true, [], ◌∷◌, Some, None, length}
use Rattle.std.proofs.Common.{refl, sym, ◌∙◌, ap, subst, arith, ◌⊎◌, inl, ⊎_elim, le-leb, lt-ltb, length-append}
use Rattle.std.specs.Prelude.{IfOk, Result, Ok, Err}
use Rattle.std.specs.declared.option.Option.{Option}
use Rattle.boundary.proofs.Starting.{boot_runs}
use Rattle.machine_memory.specs.declared.timing.Config.{Config}
use Rattle.command_line.specs.declared.command.Settings.{Settings}
use Rattle.method_cache.specs.Contents.{can_load, empty}
use Rattle.image_file.specs.Bare.{BareContent, IsBareContent, spelled, return_code}
use Rattle.jop_core.specs.State as machine
use Rattle.jop_core.specs.Reset.{words_for, bare_reset}
use Rattle.image_facts.specs.Methods.{AreMethods}
use Rattle.bytecode_model.specs.declared.Ending.{Ending as Mode}
use Rattle.bytecode_model.specs.declared.Ending.TheVariants.{Running, Ended, Uncaught}
use Rattle.bytecode_model.specs.Lists.{onto}
use Rattle.bytecode_typing.specs.Fits.{IsGoing}
use Rattle.boundary.specs.declared.runs.RunEnd.{RunEnd}
use Rattle.boundary.specs.declared.runs.RunEnd.TheVariants as ends
use Rattle.run_commands.specs.declared.program_end.ProgramEnd.{ProgramEnd}
use Rattle.boundary.specs.declared.answer.Boundary.TheVariants.{Bytecode}
use Rattle.boundary.specs.Laws.{BareImagesArePrograms}
use Rattle.boundary.specs.Session.{Session, Begins}
use Rattle.boundary.specs.BareLaws.{BareImagesStep}
use Rattle.boundary.specs.Setting.{Setting, bare_setting}
use Rattle.boundary.specs.Activations.{Stage}
use Rattle.boundary.specs.Runs.{Goes}
use Rattle.answer_lines.specs.declared.line.Counts.{Counts}
use Rattle.run_devices.specs.Lent.{Lent}
use Rattle.device_traits.specs.declared.fault.DeviceFault.{DeviceFault}
use Rattle.device_traits.specs.declared.fault.DeviceFault.TheVariants as faults
use Rattle.endings.specs.Show.{Shown, Output, Trace}
use Rattle.run_commands.specs.Run as run
use Rattle.endings.specs.DeviceFaults.{fault_ending}
use Rattle.run_commands.specs.Run.{Started, RunsAs}
use Rattle.endings.specs.Phase.{HasSettings}
use Rattle.endings.specs.declared.outcome.Ending.{Ending}
use Rattle.endings.specs.Leaving.{Leaves}
use Rattle.run_commands.specs.BareFile.{RanImage}
use Rattle.endings.specs.Fitting.{blocks_of_code}

-- the code fits the cache of the settings
pub fits_cache : (settings : Settings) (image : BareContent) (config : Config) → HasSettings settings config → IsBareContent image → blocks_of_code settings image ≤ settings.blocks
    → can_load (words_for (length image.code)) (empty config.blocks config.block_words) ≡ true
fits_cache settings image config has grammar few =
    let some : 1 ≤ length image.code = omega (arith, ap length grammar.code ∙ length-append (spelled grammar.instructions) (return_code ∷ [])) in
    let words : 0 < words_for (length image.code) = omega (arith, some) in
    ap (λ b. can_load (words_for (length image.code)) (empty b config.block_words)) has.blocks
    ∙ ap (λ w. can_load (words_for (length image.code)) (empty settings.blocks w)) has.block_words
    ∙ rw (lt-ltb 0 (words_for (length image.code)) words, le-leb (blocks_of_code settings image) settings.blocks few) refl

-- ---- where it begins

pub started : BareImagesArePrograms → (image : BareContent) → IsBareContent image → (n : ℕ) (config : Config) {E : Type 0} (s : Result Session E) → IfOk s (λ r. r.machine ≡ bare_reset n image config) → IfOk s (λ r. r.mode ≡ Ok Bytecode)
    → (let g = bare_setting image n config.memory in IfOk s (λ r. AreMethods g.program g.places r.methods)) → IfOk s (λ r. Begins (bare_setting image n config.memory) r.machine) → IfOk s (Started (bare_setting image n config.memory) (bare_reset n image config))
started programs image grammar n config (Ok r) is mode methods begins =
    record { is_setting = programs image n config.memory grammar; methods = methods; machine_is = is; mode = mode; begins = subst (Begins (bare_setting image n config.memory)) is begins }
started programs image grammar n config (Err e) is mode methods begins = tt

-- ---- the states of a bare image's run

onto_some : {A B : Type 0} (o : Option A) (g : A → Option B) (y : B) → onto o g ≡ Some y → (x : A) × (o ≡ Some x) × (g x ≡ Some y)
onto_some None g y h = absurd (cc)
onto_some (Some x) g y h = (x, refl, h)

-- what goes on of these two runs
on : (mode : Mode) → (mode ≡ Running) ⊎ (mode ≡ Ended) → IsGoing mode → mode ≡ Running
on mode h going = ⊎_elim (λ e. e) (λ e. absurd (subst IsGoing e going)) h

module _ (stepping : BareImagesStep) (image : BareContent) (grammar : IsBareContent image) (n memory limit : ℕ) (a : Stage) (begins : a.state.mode ≡ Running) where
  abbrev g : Setting
  g = bare_setting image n memory

  -- each runs or has ended
  calm : (steps : ℕ) (b : Stage) → Goes g limit a steps b → (b.state.mode ≡ Running) ⊎ (b.state.mode ≡ Ended)
  calm zero b goes = inl (ap (λ (x : Stage). x.state.mode) goes ∙ begins)
  calm (suc steps) b (mid, goes, going, below, follows) =
      (stepping image n memory mid.machine follows.answer mid.state b.state grammar follows.stands (on mid.state.mode (calm steps mid goes) going) follows.byte follows.is_next).mode

  never_uncaught : (steps : ℕ) (b : Stage) (class : ℕ) → Goes g limit a steps b → b.state.mode ≡ Uncaught class → ⊥
  never_uncaught steps b class goes holds =
      ⊎_elim (λ e. let clash : Running ≡ Uncaught class = sym e ∙ holds in cc) (λ e. let clash : Ended ≡ Uncaught class = sym e ∙ holds in cc) (calm steps b goes)

  uncaught_not : (shown : Shown) (now : machine.MachineState) (old new : Lent) (class : ℕ) → RunsAs shown g limit a now old new (Ok (ends.Uncaught class)) → ⊥
  uncaught_not Output now old new class r = never_uncaught r.run.steps r.last class r.run.stages r.holds
  uncaught_not (Trace cycles names) now old new class r = let x = r.traces in never_uncaught x.traced.run.steps x.last class x.traced.run.stages x.holds

-- ---- how it ends

-- no object isn't caught
pub none_uncaught : BareImagesStep → (image : BareContent) → IsBareContent image → (shown : Shown) (n memory : ℕ) (reset : machine.MachineState) (limit : ℕ) (old new : Lent) (p : ProgramEnd) (class : ℕ) → p.end ≡ Ok (ends.Uncaught class)
    → run.Ran shown (bare_setting image n memory) reset limit old new p → ⊥
none_uncaught stepping image grammar shown n memory reset limit old new p class is ran =
    let g = bare_setting image n memory in
    let R : Result RunEnd DeviceFault → Type 0 = λ end. run.Ran shown g reset limit old new (record { end = end; counts = p.counts }) in
    let r = (subst R is ran).run in
    uncaught_not stepping image grammar n memory limit (record { machine = reset; state = r.boot }) (boot_runs g.program r.boot r.is_boot) shown r.now old new class r.runs

-- a call that fails is one on the output, where the input has ended
by_fault : (shown : Shown) (g : Setting) (reset : machine.MachineState) (limit : ℕ) (old new : Lent) (fault : DeviceFault) (counts : Counts) (ending : Ending) → new.read_faults ≡ 0 → ending ≡ fault_ending fault
    → run.Ran shown g reset limit old new (run.failed fault counts) → RanImage shown g reset limit old new ending
by_fault shown g reset limit old new faults.Input counts ending none says ran = absurd (omega (arith, none, ran.rose))
by_fault shown g reset limit old new faults.Output counts ending none says ran = subst (RanImage shown g reset limit old new) (sym says) (record { fault = faults.Output; says = refl; counts = counts; ran = ran })
by_fault shown g reset limit old new faults.Seen counts ending none says ran = subst (RanImage shown g reset limit old new) (sym says) (record { fault = faults.Seen; says = refl; counts = counts; ran = ran })

pub to_fault : (shown : Shown) (g : Setting) (reset : machine.MachineState) (limit : ℕ) (old new : Lent) (p : ProgramEnd) (fault : DeviceFault) (ending : Ending) → p.end ≡ Err fault → new.read_faults ≡ 0 → ending ≡ fault_ending fault
    → run.Ran shown g reset limit old new p → RanImage shown g reset limit old new ending
to_fault shown g reset limit old new p fault ending is none says ran =
    let R : Result RunEnd DeviceFault → Type 0 = λ end. run.Ran shown g reset limit old new (record { end = end; counts = p.counts }) in
    by_fault shown g reset limit old new fault p.counts ending none says (subst R is ran)

-- it ended so
pub to_end : (shown : Shown) (g : Setting) (reset : machine.MachineState) (limit : ℕ) (old new : Lent) (p : ProgramEnd) (end : RunEnd) → p.end ≡ Ok end → run.Ran shown g reset limit old new p → run.Ran shown g reset limit old new (run.ended end p.counts)
to_end shown g reset limit old new p end is ran =
    let R : Result RunEnd DeviceFault → Type 0 = λ e. run.Ran shown g reset limit old new (record { end = e; counts = p.counts }) in
    subst R is ran

-- a run that was begun leaves nothing as it was
pub fault_leaves : (fault : DeviceFault) (ending : Ending) → ending ≡ fault_ending fault → Leaves ending → ⊥
fault_leaves faults.Input ending says leaves = subst Leaves says leaves
fault_leaves faults.Output ending says leaves = subst Leaves says leaves
fault_leaves faults.Seen ending says leaves = subst Leaves says leaves
