-- How it ends where there is no analysis: of a program, or of a bare image.
use Rattle.std.specs.Prelude.{◌≡◌, ℕ, ◌≤◌, List}
use Rattle.image_file.specs.Bare.{BareContent}
use Rattle.command_line.specs.declared.command.Settings.{Settings}
use Rattle.answer_lines.specs.declared.analysis.AnalysisFault.{AnalysisFault}
use Rattle.answer_lines.specs.declared.analysis.AnalysisFault.TheVariants as analysis
use Rattle.endings.specs.declared.outcome.Refusal.TheVariants.{BadBounds, TwiceBound}
use Rattle.endings.specs.declared.outcome.Ending.{Ending}
use Rattle.endings.specs.declared.outcome.Ending.TheVariants.{Refused, TooLong, NoMemory}
use Rattle.endings.specs.Fitting.{blocks_of_code}
use Rattle.answer_lines.specs.BoundsFaults.{IsBoundsFault}

-- the ending that says why there is no analysis
abbrev pub fault_ending : Settings → AnalysisFault → Ending
fault_ending s (analysis.MethodTooLong method name blocks) = TooLong method name blocks s.blocks
fault_ending s (analysis.BadBounds line) = Refused (BadBounds line)
fault_ending s (analysis.TwiceBound line) = Refused (TwiceBound line)
fault_ending s analysis.NoMemory = NoMemory

-- its code fits, and this refuses the bounds
pub record EndsUnread (s : Settings) (image : BareContent) (bounds_text : List ℕ) (ending : Ending) : Type 0 where
  pub fits : blocks_of_code s image ≤ s.blocks
  pub fault : AnalysisFault
  pub is : IsBoundsFault bounds_text fault
  pub says : ending ≡ fault_ending s fault
