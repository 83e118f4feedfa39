-- The run of what was linked, with settings.
use Rattle.std.specs.Prelude.{◌≤◌, length}
use Rattle.machine_memory.specs.declared.timing.Config.{Config}
use Rattle.jop_core.specs.Reset.{linked_reset}
use Rattle.command_line.specs.declared.command.Settings.{Settings}
use Rattle.jopizer.specs.Linked.{Parts}
use Rattle.run_commands.specs.declared.program_end.ProgramEnd.{ProgramEnd}
use Rattle.endings.specs.declared.show.Show.{Show}
use Rattle.endings.specs.Show.{linked_shown}
use Rattle.endings.specs.Phase.{HasSettings}
use Rattle.run_devices.specs.Lent.{Lent}
use Rattle.run_commands.specs.Run as run
use Rattle.run_commands.specs.LinkedRun.{HasClass}
use Rattle.endings.specs.Settings.{linked_setting}
use Rattle.endings.specs.Fitting.{CodesFit}

-- A machine with the settings holds the image, and it was run from reset.
pub record RanLinkedWith (settings : Settings) (show : Show) (l : Parts) (old new : Lent) (p : ProgramEnd) : Type 0 where
  pub codes : CodesFit settings l
  pub memory : length l.laid.words ≤ settings.memory
  pub config : Config
  pub has : HasSettings settings config
  pub ran : run.Ran (linked_shown l.classes show) (linked_setting l.classes settings.stack config.memory)
      (linked_reset settings.stack l.laid.words config) settings.cycles old new p
  pub class : HasClass l.classes p.end
