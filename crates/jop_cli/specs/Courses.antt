-- A run on which no call fails: the program's by the definition of the bytecode, the machine's with it, and what the call answers of where they come to.
use Rattle.std.specs.Prelude.{◌≡◌, ℕ, ◌≤◌, Bool, List, [], Some, Vec}
use Rattle.std.specs.declared.alloc.Global.{Global}
use Rattle.class_pool.specs.declared.class.ClassFile.{ClassFile}
use Rattle.machine_memory.specs.declared.timing.Config.{Config}
use Rattle.image_file.specs.Bare.{BareContent}
use Rattle.device_traits.specs.Told.{Told, GivesEach}
use Rattle.outside.specs.Outside.{Grew}
use Rattle.run_devices.specs.Traced.{traced}
use Rattle.jop_core.specs.State as machine
use Rattle.jop_core.specs.Reset.{bare_reset, linked_reset}
use Rattle.bytecode_model.specs.declared.Ending.{Ending as Mode}
use Rattle.bytecode_model.specs.declared.Ending.TheVariants as modes
use Rattle.bytecode_model.specs.State.{State}
use Rattle.bytecode_model.specs.Steps.{boot_state}
use Rattle.boundary.specs.Setting.{Setting, IsSetting, bare_setting}
use Rattle.boundary.specs.Activations.{Stage}
use Rattle.boundary.specs.Runs.{IsRun}
use Rattle.boundary.specs.Traces.{run_text, unnoted}
use Rattle.run_devices.specs.Lent.{Lent, wired}
use Rattle.answer_lines.specs.declared.line.Counts.{Counts}
use Rattle.command_line.specs.declared.command.Settings.{Settings}
use Rattle.jopizer.specs.Linked.{Parts}
use Rattle.endings.specs.declared.outcome.Ending.{Ending}
use Rattle.endings.specs.declared.outcome.Ending.TheVariants as endings
use Rattle.endings.specs.declared.outcome.Outcome.TheVariants as outcomes
use Rattle.endings.specs.declared.show.Show.{Show}
use Rattle.endings.specs.Line.{line_of}
use Rattle.endings.specs.Phase.{HasSettings}
use Rattle.run_commands.specs.Run.{AreCounts}
use Rattle.endings.specs.Show.{Shown, Output, Trace, bare_shown, linked_shown}
use Rattle.endings.specs.Settings.{linked_setting}
use Rattle.run_commands.specs.LinkedFile.{NamesClass}
use Rattle.endings.specs.World.{IsUntaken}
use Rattle.jop_cli.specs.Answer.{lent_of, lent_without_input}
use Rattle.jop_cli.specs.Calls.{Call}

-- ---- what is answered

-- err was given the line of this ending, with the counts of the machine's state
pub record SaysLine (c : Call) (now : machine.MachineState) (ending : Counts → Ending) : Type 0 where
  pub counts : Counts
  pub are : AreCounts counts now
  pub line : Grew c.err_old c.err_new (line_of c.words (ending counts))

-- the program has ended
pub record AnswersEnded (c : Call) (now : machine.MachineState) : Type 0 where
  pub outcome : c.outcome ≡ outcomes.Ended
  pub says : SaysLine c now (λ counts. endings.Ended counts)

-- an object of a class of the program wasn't caught, and the line names the class
pub record AnswersUncaught (c : Call) (cs : List ClassFile) (class : ℕ) (now : machine.MachineState) : Type 0 where
  pub outcome : c.outcome ≡ outcomes.Uncaught class
  pub name : Vec ℕ Global
  pub names : NamesClass cs class name.items
  pub says : SaysLine c now (λ counts. endings.Uncaught class name counts)

-- the program goes on, and the clock has reached the limit
pub record AnswersSpent (c : Call) (limit : ℕ) (now : machine.MachineState) : Type 0 where
  pub outcome : c.outcome ≡ outcomes.Spent
  pub late : limit ≤ now.clock
  pub says : SaysLine c now (λ counts. endings.Spent counts)

-- what is answered of a program of these classes whose state has this mode
abbrev pub AnswersMode : (c : Call) → (cs : List ClassFile) → (limit : ℕ) → (now : machine.MachineState) → Mode → Type 0
AnswersMode c cs limit now modes.Running = AnswersSpent c limit now
AnswersMode c cs limit now (modes.Raising p) = AnswersSpent c limit now
AnswersMode c cs limit now modes.Ended = AnswersEnded c now
AnswersMode c cs limit now (modes.Uncaught class) = AnswersUncaught c cs class now

-- ---- the run

-- The image says the program, which is lawful and typed. From the boot state the program's run came to the last state, and from reset the machine, which
-- stands for each state on the way. Just the output of that state was put out, and just its answers were taken from the input.
pub record RanProgram (c : Call) (cs : List ClassFile) (g : Setting) (reset : machine.MachineState) (limit : ℕ) (old new : Lent) : Type 0 where
  pub is_setting : IsSetting g
  pub boot : State
  pub is_boot : boot_state g.program ≡ Some boot
  pub last : Stage
  pub run : IsRun g limit (record { machine = reset; state = boot }) last (wired old) (wired new)
  pub output : Grew old.held new.held last.state.output
  pub input : GivesEach old.left new.left last.state.answers
  pub answers : AnswersMode c cs limit last.machine last.state.mode

-- The same run, of which the lines were put out and not the output. The watch is as it was.
pub record TracedProgram (c : Call) (cs : List ClassFile) (cycles : Bool) (names : List (List ℕ)) (g : Setting) (reset : machine.MachineState) (limit : ℕ)
    (old new : Lent) : Type 0 where
  pub is_setting : IsSetting g
  pub boot : State
  pub is_boot : boot_state g.program ≡ Some boot
  pub last : Stage
  pub after : Told
  pub run : IsRun g limit (record { machine = reset; state = boot }) last
      (unnoted (traced cycles old.left old.read_faults old.held old.write_faults old.write_faults)) (unnoted after)
  pub text : Grew old.held new.held (run_text cycles names g limit (record { machine = reset; state = boot }) run.steps last run.stages)
  pub input : GivesEach old.left new.left last.state.answers
  pub watch : new.handed ≡ old.handed
  pub answers : AnswersMode c cs limit last.machine last.state.mode

abbrev pub RanShown : Shown → (c : Call) → (cs : List ClassFile) → (g : Setting) → (reset : machine.MachineState) → (limit : ℕ) → (old new : Lent) → Type 0
RanShown Output c cs g reset limit old new = RanProgram c cs g reset limit old new
RanShown (Trace cycles names) c cs g reset limit old new = TracedProgram c cs cycles names g reset limit old new

-- ---- of an image

-- what was linked ran on a machine with the settings, from reset
pub record RanLinked (c : Call) (settings : Settings) (show : Show) (l : Parts) : Type 0 where
  pub config : Config
  pub has : HasSettings settings config
  pub ran : RanShown (linked_shown l.classes show) c l.classes (linked_setting l.classes settings.stack config.memory)
      (linked_reset settings.stack l.laid.words config) settings.cycles (lent_of c.old) (lent_of c.new)

-- a bare image ran so, with an input that has ended, and no class is uncaught; the input itself wasn't asked
pub record RanBare (c : Call) (settings : Settings) (show : Show) (image : BareContent) : Type 0 where
  pub config : Config
  pub has : HasSettings settings config
  pub ran : RanShown (bare_shown show) c [] (bare_setting image settings.stack config.memory) (bare_reset settings.stack image config) settings.cycles
      (lent_without_input c.old) (lent_without_input c.new)
  pub input : IsUntaken c.old c.new
