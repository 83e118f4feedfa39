-- What each command does.
use Rattle.std.specs.Prelude.{ℕ, ◌+◌, ◌<◌, ◌≤◌, Bool}
use Rattle.command_line.specs.declared.command.Settings.{Settings}
use Rattle.command_line.specs.declared.command.Command.{Command}
use Rattle.command_line.specs.declared.command.Command.TheVariants as commands
use Rattle.command_line.specs.Range.{AreSettings}
use Rattle.ask_commands.specs.declared.asking.Question.TheVariants.{Check, Bound, Bounds, Shapes, Report, Loops, Headers, Memory, Rtl}
use Rattle.ask_commands.specs.declared.asking.Asked.{Asked}
use Rattle.ask_commands.specs.declared.priced_files.PricedQuestion.TheVariants.{CheckWith, BoundWith}
use Rattle.ask_commands.specs.declared.priced_files.AskedWith.{AskedWith}
use Rattle.endings.specs.declared.show.Show.TheVariants as shows
use Rattle.jop_cli.specs.declared.task.Task.{Task}
use Rattle.jop_cli.specs.declared.task.Task.TheVariants.{Run, Profile, Plan, Cycle, Assemble, Link, Ask, AskWith, Work}
use Rattle.ask_commands.specs.Asking.{HasRightSettings}
use Rattle.ask_commands.specs.PricedFiles.{HasPricedSettings}

-- ---- the questions

abbrev pub checking : Settings → (image : ℕ) → Asked
checking s image = record { question = Check s; image = image; operands = 3 }

abbrev pub bounding : Settings → (method image : ℕ) → Asked
bounding s method image = record { question = Bound s method; image = image; operands = 2 }

abbrev pub bounding_all : Settings → (image : ℕ) → Asked
bounding_all s image = record { question = Bounds s; image = image; operands = 2 }

abbrev pub bounding_shapes : Settings → (method image : ℕ) → Asked
bounding_shapes s method image = record { question = Shapes s method; image = image; operands = 2 }

abbrev pub reporting : Settings → (method image : ℕ) → Asked
reporting s method image = record { question = Report s method; image = image; operands = 2 }

-- with what is known further, or by constants alone
abbrev pub finding_loops : (further : Bool) (image : ℕ) → Asked
finding_loops further image = record { question = Loops further; image = image; operands = 1 }

-- with the bounds by lines of sources where there are two operands
abbrev pub heading : (image operands : ℕ) → Asked
heading image operands = record { question = Headers; image = image; operands = operands }

abbrev pub needing : (image : ℕ) → Asked
needing image = record { question = Memory; image = image; operands = 3 }

-- the circuit of a machine with these settings
abbrev pub making_circuit : Settings → (image : ℕ) → Asked
making_circuit s image = record { question = Rtl s; image = image; operands = 1 }

-- by the facts of a word
abbrev pub checking_with : Settings → (facts image : ℕ) → AskedWith
checking_with s facts image = record { question = CheckWith s; image = image; operands = 3; facts = facts }

abbrev pub bounding_with : Settings → (method facts image : ℕ) → AskedWith
bounding_with s method facts image = record { question = BoundWith s method; image = image; operands = 2; facts = facts }

-- ---- the commands

abbrev pub task_of : Command → Task
task_of (commands.Link main first) = Link main first
task_of (commands.Run s image) = Run s shows.Output image
task_of (commands.Trace s micro image) = Run s (shows.Trace micro) image
task_of (commands.Profile s image bounds) = Profile s image
task_of (commands.Bound s method image bounds) = Ask (bounding s method image)
task_of (commands.BoundWith s method facts image bounds) = AskWith (bounding_with s method facts image)
task_of (commands.BoundAll s image bounds) = Ask (bounding_all s image)
task_of (commands.BoundShapes s method image bounds) = Ask (bounding_shapes s method image)
task_of (commands.Report s method image bounds) = Ask (reporting s method image)
task_of (commands.Check s image bounds certificate) = Ask (checking s image)
task_of (commands.CheckWith s facts image bounds certificate) = AskWith (checking_with s facts image)
task_of (commands.Loops further image) = Ask (finding_loops further image)
task_of (commands.Headers image operands) = Ask (heading image operands)
task_of (commands.Memory image bounds sizes) = Ask (needing image)
task_of (commands.Plan s rounds table bounds first) = Plan s rounds table
task_of (commands.Cycle s rounds table first) = Cycle s rounds table
task_of (commands.Rtl s image) = Ask (making_circuit s image)
task_of (commands.Asm text) = Assemble text
task_of (commands.Work n) = Work n

-- the words that it means are among so many, and its settings and its count are in their ranges
abbrev pub IsAmong : (words : ℕ) → Task → Type 0
IsAmong n (Run s show image) = AreSettings s × (image < n)
IsAmong n (Profile s image) = AreSettings s × (image + 2 ≤ n)
IsAmong n (Plan s rounds table) = AreSettings s × (1 ≤ rounds) × (rounds ≤ 32767) × (table + 2 ≤ n)
IsAmong n (Cycle s rounds table) = AreSettings s × (1 ≤ rounds) × (rounds ≤ 32767) × (table + 1 ≤ n)
IsAmong n (Assemble text) = text < n
IsAmong n (Link main first) = (main < n) × (first < n)
IsAmong n (Ask asked) = HasRightSettings asked.question × (asked.image + asked.operands ≤ n)
IsAmong n (AskWith asked) = HasPricedSettings asked.question × (asked.image + asked.operands ≤ n) × (asked.facts < n)
IsAmong n (Work count) = (1 ≤ count) × (count ≤ 1000)
