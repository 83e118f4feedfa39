-- What `cycle` promises: it is a run, and where there is a plan its slots keep their lengths.
use Rattle.std.specs.Prelude.{◌≡◌, ℕ, List, [], Ok, ◌≤◌, true, length, Some, slice_get}
use Rattle.command_line.specs.declared.command.Command.TheVariants.{Cycle as ToCycle}
use Rattle.run_devices.specs.Lent.{Lent, wired}
use Rattle.run_follower.specs.declared.watch.activation.Activation.{Activation}
use Rattle.run_follower.specs.Watch.Watched.{is_slot, cycles_of as used_by}
use Rattle.activation_laws.specs.Seen.{IsActivationIn}
use Rattle.slot_plans.specs.Plan.{IsPlan}
use Rattle.analysis_commands.specs.Executive.{IsExecutive}
use Rattle.run_commands.specs.Following.{run_stages}
use Rattle.endings.specs.Fitting.{IsUnheld}
use Rattle.endings.specs.Executive.{IsReadied}
use Rattle.jop_cli.specs.promises.Words.{Settings, Parts, Slot, Ending, line_of, Grew, IsQuiet, Call, LacksMemory, IsLinkedWith, outcome_of, command_of}
use Rattle.jop_cli.specs.promises.Words.{NothingFailed, linked_reset, Stage, linked_setting, AreSettings, timing_of, Keeps, resolved, bounds_of}
use Rattle.jop_cli.specs.promises.Words.{named_or_number, AreFiles, text_of_word}
use Rattle.run_commands.specs.Profiling.{unwatched}
use Rattle.run_commands.specs.Cycling.{RanCycle, EndsCycle, cycled_files}
use Rattle.jop_cli.specs.promises.Runs.{IsOver}
use Rattle.jop_cli.specs.promises.Plan.{AreReadied}

-- ---- `plan` and `cycle`

-- What comes of a cycle: what is linked was run, and the line says how the run ended and how the slots kept their lengths; or a machine with the settings
-- doesn't hold it, and the line says why; or there was no memory.
pub data IsCycled (c : Call) (settings : Settings) (rounds : ℕ) (slots : List Slot) (files : List (List ℕ)) : Type 0 where
  ran : (l : Parts) (ending : Ending) → IsLinkedWith slots rounds files l → RanCycle settings l slots (unwatched c.old) (unwatched c.new) ending
      → EndsCycle ending → c.outcome ≡ outcome_of ending → Grew c.err_old c.err_new (line_of c.words ending) → IsCycled c settings rounds slots files
  unheld : (l : Parts) (ending : Ending) → IsLinkedWith slots rounds files l → IsUnheld settings l ending → c.outcome ≡ outcome_of ending
      → Grew c.err_old c.err_new (line_of c.words ending) → IsQuiet c.old c.new → IsCycled c settings rounds slots files
  lacks : LacksMemory c → IsCycled c settings rounds slots files

abbrev pub CyclesAreRuns : Type 0
CyclesAreRuns =
    (c : Call) (settings : Settings) (rounds table first : ℕ) (slots : List Slot) (files : List (List ℕ))
    → command_of c.words ≡ Ok (ToCycle settings rounds table first) → AreReadied c table rounds slots [] files → NothingFailed c
    → IsCycled c settings rounds slots files

-- The boundaries of the run of a cycle.
abbrev pub cycle_boundaries : (settings : Settings) → (l : Parts) → (slots : List Slot) → (old new : Lent) → (ending : Ending)
    → RanCycle settings l slots old new ending → List Stage
cycle_boundaries settings l slots old new ending r =
    run_stages (linked_setting l.classes settings.stack r.ran.config.memory) (linked_reset settings.stack l.laid.words r.ran.config) settings.cycles
    (wired old) (wired new) r.followed r.ran.cycles.ran

-- a plan of slots, and a cycle of the same that ran, with the same waits and the same sizes of the method cache
pub record PlannedCycle : Type 0 where
  pub planned : Settings
  pub are : AreSettings planned
  pub linked : Parts
  pub slots : List Slot
  pub bounds_text : List ℕ
  pub text : List ℕ
  pub plan : IsPlan linked.classes planned bounds_text slots text
  pub settings : Settings
  pub timing : timing_of settings ≡ timing_of planned
  pub old : Lent
  pub new : Lent
  pub ending : Ending
  pub ran : RanCycle settings linked slots old new ending

-- An activation of a slot in the run of the cycle takes at most as many cycles as the slot's length, where it keeps the bounds of loops.
abbrev pub SlotsAreKept : Type 0
SlotsAreKept =
    (c : PlannedCycle) (executive number : ℕ) (slot : Slot) (x : Activation)
    → IsExecutive (resolved c.linked.classes) (named_or_number c.linked.classes) executive → slice_get c.slots number ≡ Some slot
    → is_slot executive number x.begun ≡ true
    → (is : IsActivationIn (linked_setting c.linked.classes c.settings.stack c.ran.ran.config.memory)
    (cycle_boundaries c.settings c.linked c.slots c.old c.new c.ending c.ran) x)
    → Keeps (bounds_of c.linked.classes c.plan.bounds) is.is → used_by x ≤ slot.length

-- What a call of `cycle` shows that answers how the run ended, whatever failed: what the class files are linked to with the executive of the table's slots
-- was run, and the line says how the slots kept their lengths.
pub record ShowsCycle (c : Call) (settings : Settings) (rounds table : ℕ) : Type 0 where
  pub files : List (List ℕ)
  pub are : AreFiles c.old.files table c.old.words files
  pub slots : List Slot
  pub linked : Parts
  pub readied : IsReadied (text_of_word files 0) rounds (cycled_files files) slots linked
  pub ending : Ending
  pub ran : RanCycle settings linked slots (unwatched c.old) (unwatched c.new) ending
  pub outcome : c.outcome ≡ outcome_of ending
  pub line : Grew c.err_old c.err_new (line_of c.words ending)

abbrev pub CyclesAreShown : Type 0
CyclesAreShown =
    (c : Call) (settings : Settings) (rounds table first : ℕ) → command_of c.words ≡ Ok (ToCycle settings rounds table first) → IsOver c.outcome
    → ShowsCycle c settings rounds table

-- each activation of a slot in the run of a planned cycle keeps the bounds of loops
abbrev pub SlotsKeepBounds : PlannedCycle → (executive : ℕ) → Type 0
SlotsKeepBounds c executive =
    (number : ℕ) (slot : Slot) (x : Activation) → slice_get c.slots number ≡ Some slot → is_slot executive number x.begun ≡ true
    → (is : IsActivationIn (linked_setting c.linked.classes c.settings.stack c.ran.ran.config.memory)
    (cycle_boundaries c.settings c.linked c.slots c.old c.new c.ending c.ran) x)
    → Keeps (bounds_of c.linked.classes c.plan.bounds) is.is

-- Then the line of the cycle says that no activation of a slot was late.
abbrev pub NoSlotIsLate : Type 0
NoSlotIsLate =
    (c : PlannedCycle) (executive : ℕ) → IsExecutive (resolved c.linked.classes) (named_or_number c.linked.classes) executive → SlotsKeepBounds c executive
    → c.ran.numbers.late ≡ 0
