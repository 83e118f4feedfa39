-- What a call of `run` or of `trace` shows that answers how the run ended, and the boundaries of such a run.
use Rattle.std.specs.Prelude.{◌≡◌, ℕ, Some, List, ◌⊎◌, Ok, ◌<◌}
use Rattle.image_file.specs.Linked as file
use Rattle.machine_memory.specs.declared.timing.Config.{Config}
use Rattle.bytecode_model.specs.State.{State}
use Rattle.bytecode_model.specs.Steps.{boot_state}
use Rattle.boundary.specs.Runs.{Goes, input_of}
use Rattle.endings.specs.declared.outcome.Outcome.{Outcome}
use Rattle.endings.specs.declared.outcome.Outcome.TheVariants.{Ended, Uncaught, Spent}
use Rattle.endings.specs.World.{Reads}
use Rattle.bytecode_typing.specs.Fits.{IsGoing}
use Rattle.method_runs.specs.Runs.{Walks, walks_from}
use Rattle.boundary.specs.Setting.{limits}
use Rattle.boundary.specs.Activations.{Follows}
use Rattle.jop_cli.specs.promises.Words.{Settings, Parts, linked_reset, Stage, resolved, linked_setting, IsLinked, image_of, Show, Call, RanLinked}
use Rattle.jop_cli.specs.promises.Words.{BareContent, IsBareFile, Command, command_of, task_of}
use Rattle.jop_cli.specs.Courses.{RanBare}
use Rattle.jop_cli.specs.declared.task.Task.TheVariants.{Run}
use Rattle.jop_cli.specs.promises.Run.{last_boundary}

-- ---- the bounds in the runs

-- a boundary of the run of what was linked, from reset: some steps lead to it
pub record IsBoundary (settings : Settings) (l : Parts) (config : Config) (a : Stage) : Type 0 where
  pub boot : State
  pub is_boot : boot_state (resolved l.classes) ≡ Some boot
  pub steps : ℕ
  pub goes : Goes (linked_setting l.classes settings.stack config.memory) settings.cycles
      (record { machine = linked_reset settings.stack l.laid.words config; state = boot }) steps a

-- ---- from the outcome alone

-- a run has ended so, or was stopped by the clock
abbrev pub IsOver : Outcome → Type 0
IsOver Ended = Unit {0}
IsOver (Uncaught class) = Unit {0}
IsOver Spent = Unit {0}
IsOver outcome = ⊥

-- the bytes are the file of what was linked, and it ran
pub record RanLinkedFile (c : Call) (settings : Settings) (show : Show) (bytes : List ℕ) : Type 0 where
  pub linked : Parts
  pub is_linked : IsLinked linked
  pub is_file : file.IsLinkedFile bytes (image_of linked)
  pub ran : RanLinked c settings show linked

-- they are a bare image, and it ran
pub record RanBareFile (c : Call) (settings : Settings) (show : Show) (bytes : List ℕ) : Type 0 where
  pub image : BareContent
  pub bare : IsBareFile bytes image
  pub ran : RanBare c settings show image

-- These are the bytes of the file of the word, and what they are the image of ran, as `RunsAreTheBytecodes` says.
pub record ShowsRun (c : Call) (settings : Settings) (show : Show) (word : ℕ) : Type 0 where
  pub bytes : List ℕ
  pub reads : Reads word bytes c.old c.new
  pub shows : RanLinkedFile c settings show bytes ⊎ RanBareFile c settings show bytes

-- So it is of each call of `run` and of `trace` with such an outcome, whatever failed.
abbrev pub RunsAreShown : Type 0
RunsAreShown =
    (c : Call) (command : Command) (settings : Settings) (show : Show) (word : ℕ) → command_of c.words ≡ Ok command → task_of command ≡ Run settings show word
    → IsOver c.outcome → ShowsRun c settings show word

-- ---- the boundaries of a run

-- The run goes on from one boundary to the next.
pub record RunGoesOn (settings : Settings) (l : Parts) (config : Config) (a b : Stage) : Type 0 where
  pub from : IsBoundary settings l config a
  pub going : IsGoing a.state.mode
  pub below : a.machine.clock < settings.cycles
  pub follows : Follows (linked_setting l.classes settings.stack config.memory) a b

-- The boundary to which a run came is one.
abbrev pub RunsComeToBoundaries : Type 0
RunsComeToBoundaries =
    (c : Call) (settings : Settings) (show : Show) (l : Parts) (r : RanLinked c settings show l) → IsBoundary settings l r.config (last_boundary show r)

-- What was linked was run, and this is a boundary of a run of it with the same settings, whatever is read, which need not have ended.
pub record RunAt (l : Parts) : Type 0 where
  pub call : Call
  pub settings : Settings
  pub show : Show
  pub ran : RanLinked call settings show l
  pub stage : Stage
  pub is : IsBoundary settings l ran.config stage

-- the walks of its frames so far, from these of the boot state's on
abbrev pub walks_at : (l : Parts) → RunAt l → Walks → Walks
walks_at l x ws =
    walks_from (resolved l.classes) (limits (linked_setting l.classes x.settings.stack x.ran.config.memory)) (input_of x.stage.state.answers) x.is.boot ws
    x.is.steps
