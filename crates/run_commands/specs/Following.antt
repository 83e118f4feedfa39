-- The run of what was linked, with a follower of its boundaries.
use Rattle.std.specs.Prelude.{◌≡◌, ℕ, List, All, Some}
use Rattle.machine_memory.specs.declared.timing.Config.{Config}
use Rattle.device_traits.specs.Told.{Told}
use Rattle.jop_core.specs.State as machine
use Rattle.jop_core.specs.Reset.{linked_reset}
use Rattle.bytecode_model.specs.State.{State}
use Rattle.bytecode_model.specs.Steps.{boot_state}
use Rattle.boundary.specs.Setting.{Setting, IsSetting}
use Rattle.boundary.specs.Runs.{RunsTo}
use Rattle.boundary.specs.Activations.{Stage}
use Rattle.boundary.specs.Followed.{HasSmallCounts, stages_of, seen_of}
use Rattle.run_follower.specs.declared.here.Here.{Here}
use Rattle.run_follower.specs.Following.{followed}
use Rattle.command_line.specs.declared.command.Settings.{Settings}
use Rattle.jopizer.specs.Linked.{Parts}
use Rattle.run_commands.specs.declared.program_end.ProgramEnd.{ProgramEnd}
use Rattle.endings.specs.Phase.{HasSettings}
use Rattle.run_commands.specs.Run.{AreCounts}
use Rattle.endings.specs.Settings.{linked_setting}

-- ---- the run

-- From reset, and from the boot state, the machine and the program ran to this end, and these are the machine's counts there.
pub record RanSo (g : Setting) (reset : machine.MachineState) (limit : ℕ) (told told' : Told) (f : ProgramEnd) : Type 0 where
  pub is_setting : IsSetting g
  pub boot : State
  pub is_boot : boot_state g.program ≡ Some boot
  pub now : machine.MachineState
  pub runs : RunsTo g limit (record { machine = reset; state = boot }) now told told' f.end
  pub counts : AreCounts f.counts now

-- its boundaries, from reset to the last one
abbrev pub run_stages : (g : Setting) → (reset : machine.MachineState) → (limit : ℕ) → (told told' : Told) → (f : ProgramEnd)
    → RanSo g reset limit told told' f → List Stage
run_stages g reset limit told told' f r = stages_of g limit (record { machine = reset; state = r.boot }) r.now told told' f.end r.runs

-- all that is seen of it there
abbrev pub heres_of : (g : Setting) → (reset : machine.MachineState) → (limit : ℕ) → (told told' : Told) → (f : ProgramEnd)
    → RanSo g reset limit told told' f → List Here
heres_of g reset limit told told' f r = seen_of g limit (record { machine = reset; state = r.boot }) r.now told told' f.end r.runs

-- and over all of that the follower came from one to the other
pub record FollowsRun {F : Type 0} (after : F → Here → F) (g : Setting) (reset : machine.MachineState) (limit : ℕ) (told told' : Told) (first last : F)
    (f : ProgramEnd)
    : Type 0 where
  pub ran : RanSo g reset limit told told' f
  pub follower : last ≡ followed after first (heres_of g reset limit told told' f ran)
  pub small : All HasSmallCounts (heres_of g reset limit told told' f ran)

-- ---- with settings

-- A machine with the settings holds the image, and it was run from reset.
pub record FollowsWith {F : Type 0} (after : F → Here → F) (s : Settings) (l : Parts) (told told' : Told) (first last : F) (f : ProgramEnd) : Type 0 where
  pub config : Config
  pub has : HasSettings s config
  pub follows : FollowsRun after (linked_setting l.classes s.stack config.memory) (linked_reset s.stack l.laid.words config) s.cycles told told' first last f
