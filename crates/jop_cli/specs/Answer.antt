-- What the top call answers.
use Rattle.std.specs.Prelude.{◌≡◌, ℕ, ◌+◌, ◌≤◌, true, false, ◌⊎◌, List, [], Some, Ok, Err}
use Rattle.std.specs.declared.option.Option.{Option}
use Rattle.std.specs.declared.result.Result.{Result}
use Rattle.outside.specs.Outside.{Grew, Rose}
use Rattle.outside.specs.Files.{AreFiles}
use Rattle.command_line.specs.declared.command.Settings.{Settings}
use Rattle.command_line.specs.declared.command.Command.{Command}
use Rattle.command_line.specs.declared.command.Command.TheVariants.{Run}
use Rattle.command_line.specs.Command.{command_of}
use Rattle.answer_lines.specs.Said.{SaidLess}
use Rattle.answer_lines.specs.declared.unanswered.Cause.{Cause}
use Rattle.answer_lines.specs.declared.unanswered.Cause.TheVariants as causes
use Rattle.endings.specs.declared.outcome.Refusal.{Refusal}
use Rattle.endings.specs.declared.outcome.Refusal.TheVariants.{Usage, TooBig, MethodTooLong, Link}
use Rattle.endings.specs.declared.outcome.Refusal.TheVariants.{Check as NotChecked, Price, Bound as Forbidden, Memory as NotMet, NoLoop, Plan as NotPlanned}
use Rattle.endings.specs.declared.outcome.Ending.{Ending}
use Rattle.endings.specs.declared.outcome.Ending.TheVariants.{Ended, Written, Linked, Holds, Uncaught}
use Rattle.endings.specs.declared.outcome.Ending.TheVariants.{Refused, TooLong, NotLinked, NotHeld, NotPriced, NotAnswered, Spent}
use Rattle.endings.specs.declared.outcome.Ending.TheVariants.{CycleEnded, CycleUncaught, CycleSpent}
use Rattle.endings.specs.declared.outcome.Ending.TheVariants.{ReadFault, InputFault, WriteFault, NoMemory}
use Rattle.endings.specs.declared.outcome.Outcome.{Outcome}
use Rattle.endings.specs.declared.outcome.Outcome.TheVariants as outcomes
use Rattle.endings.specs.declared.show.Show.{Show}
use Rattle.endings.specs.declared.show.Show.TheVariants as shows
use Rattle.endings.specs.Line.{text_of_word, line_of, is_fault}
use Rattle.endings.specs.Phase.{is_linked}
use Rattle.run_commands.specs.BareFile.{RunsBareBytes}
use Rattle.run_devices.specs.Lent.{Lent, lent}
use Rattle.run_commands.specs.LinkedFile.{RunsLinkedBytes}
use Rattle.endings.specs.World.{World, IsQuiet, IsUntaken, FilesStayBut, IsUnchanged, Reads, IsTooBig}
use Rattle.ask_commands.specs.Assembling.{Assembles}
use Rattle.endings.specs.Linking.{LinksFiles}
use Rattle.ask_commands.specs.Asking.{AsksFiles}
use Rattle.ask_commands.specs.PricedFiles.{AsksFilesWith}
use Rattle.run_commands.specs.Profiling.{ProfilesFiles}
use Rattle.slot_plans.specs.Planning.{PlansFiles}
use Rattle.run_commands.specs.Cycling.{CyclesFiles}
use Rattle.jop_cli.specs.declared.task.Task.{Task}
use Rattle.jop_cli.specs.declared.task.Task.TheVariants as tasks
use Rattle.jop_cli.specs.Tasks.{task_of}
use Rattle.run_commands.specs.Working.{Works}

-- what a run is lent
abbrev pub lent_of : World → Lent
lent_of w = lent w.left w.read_faults w.out w.out_faults w.watch

-- the same with an input that has ended
abbrev pub lent_without_input : World → Lent
lent_without_input w = lent (Some []) 0 w.out w.out_faults w.watch

-- ---- `run` and `trace`

-- why the file of a word wasn't read
abbrev pub FileFault : (word : ℕ) → World → World → Ending → Type 0
FileFault word old new (Refused (TooBig operand sum)) = IsTooBig word old new operand sum
FileFault word old new ReadFault = FilesStayBut word old new × Rose (old.file_faults word) (new.file_faults word)
FileFault word old new NoMemory = FilesStayBut word old new
FileFault word old new ending = ⊥

-- The file of a word was read, and its bytes are those of a bare image that was run, or of none. The input isn't asked.
pub record RunsBare (settings : Settings) (show : Show) (word : ℕ) (old new : World) (ending : Ending) : Type 0 where
  pub bytes : List ℕ
  pub reads : Reads word bytes old new
  pub bare : is_linked bytes ≡ false
  pub runs : RunsBareBytes settings show bytes (lent_without_input old) (lent_without_input new) ending
  pub input : IsUntaken old new

-- The file of a word was read, and its bytes begin as those of a linked image.
pub record ReadsLinked (word : ℕ) (bytes : List ℕ) (old new : World) : Type 0 where
  pub reads : Reads word bytes old new
  pub linked : is_linked bytes ≡ true

-- They were run, or are no such image.
pub record RunsLinked (settings : Settings) (show : Show) (word : ℕ) (old new : World) (ending : Ending) : Type 0 where
  pub bytes : List ℕ
  pub reads : ReadsLinked word bytes old new
  pub runs : RunsLinkedBytes settings show bytes (lent_of old) (lent_of new) ending

-- How the run of the image of a word ends, and the traced run, each ending with its cause.
abbrev pub RunsFile : Settings → Show → (word : ℕ) → World → World → Ending → Type 0
RunsFile settings show word old new ending = (FileFault word old new ending × IsQuiet old new)
    ⊎ (RunsBare settings show word old new ending ⊎ RunsLinked settings show word old new ending)

-- ---- all commands

-- how what a command does ends
abbrev pub DoesTask : (words : List (List ℕ)) → Task → World → World → Ending → Type 0
DoesTask words (tasks.Run settings show image) old new ending = RunsFile settings show image old new ending
DoesTask words (tasks.Profile settings image) old new ending = ProfilesFiles settings image old new ending
DoesTask words (tasks.Plan settings rounds table) old new ending = PlansFiles settings rounds table old new ending
DoesTask words (tasks.Cycle settings rounds table) old new ending = CyclesFiles settings rounds table old new ending
DoesTask words (tasks.Assemble text) old new ending = Assembles text old new ending
DoesTask words (tasks.Link main first) old new ending = LinksFiles (text_of_word words main) first old new ending
DoesTask words (tasks.Ask asked) old new ending = AsksFiles words asked old new ending
DoesTask words (tasks.AskWith asked) old new ending = AsksFilesWith words asked old new ending
DoesTask words (tasks.Work n) old new ending = Works n old new ending

-- how what was read of the words ends: a command, or the number of a word
abbrev pub Does : (words : List (List ℕ)) → Result Command ℕ → World → World → Ending → Type 0
Does words (Err k) old new ending = (ending ≡ Refused (Usage k)) × IsUnchanged old new
Does words (Ok command) old new ending = DoesTask words (task_of command) old new ending

abbrev pub Executed : List (List ℕ) → World → World → Ending → Type 0
Executed words old new ending = Does words (command_of words) old new ending

-- the refusal of what isn't answered
abbrev pub refusal_of : Cause → Refusal
refusal_of (causes.Bound cause) = Forbidden cause
refusal_of (causes.Memory cause) = NotMet cause
refusal_of causes.NoLoop = NoLoop
refusal_of (causes.Plan cause) = NotPlanned cause

abbrev pub outcome_of : Ending → Outcome
outcome_of (Ended counts) = outcomes.Ended
outcome_of Written = outcomes.Written
outcome_of (Linked sizes) = outcomes.Written
outcome_of (Holds held) = outcomes.Holds
outcome_of (Uncaught class name counts) = outcomes.Uncaught class
outcome_of (Refused refusal) = outcomes.Refused refusal
outcome_of (TooLong method name blocks limit) = outcomes.Refused (MethodTooLong method blocks limit)
outcome_of (NotLinked refusal name) = outcomes.Refused (Link refusal)
outcome_of (NotHeld fault name) = outcomes.Refused (NotChecked fault)
outcome_of (NotPriced method node name) = outcomes.Refused (Price method node)
outcome_of (NotAnswered cause subject) = outcomes.Refused (refusal_of cause)
outcome_of (Spent counts) = outcomes.Spent
outcome_of (CycleEnded slots) = outcomes.Ended
outcome_of (CycleUncaught class name slots) = outcomes.Uncaught class
outcome_of (CycleSpent slots) = outcomes.Spent
outcome_of ReadFault = outcomes.ReadFault
outcome_of InputFault = outcomes.ReadFault
outcome_of WriteFault = outcomes.WriteFault
outcome_of NoMemory = outcomes.NoMemory

-- the outcome where the line of an ending couldn't be put
abbrev pub outcome_unsaid : Ending → Outcome
outcome_unsaid (Ended counts) = outcomes.WriteFault
outcome_unsaid Written = outcomes.WriteFault
outcome_unsaid (Linked sizes) = outcomes.WriteFault
outcome_unsaid (Holds held) = outcomes.WriteFault
outcome_unsaid (Uncaught class name counts) = outcomes.WriteFault
outcome_unsaid (Refused refusal) = outcomes.WriteFault
outcome_unsaid (TooLong method name blocks limit) = outcomes.WriteFault
outcome_unsaid (NotLinked refusal name) = outcomes.WriteFault
outcome_unsaid (NotHeld fault name) = outcomes.WriteFault
outcome_unsaid (NotPriced method node name) = outcomes.WriteFault
outcome_unsaid (NotAnswered cause subject) = outcomes.WriteFault
outcome_unsaid (Spent counts) = outcomes.WriteFault
outcome_unsaid (CycleEnded slots) = outcomes.WriteFault
outcome_unsaid (CycleUncaught class name slots) = outcomes.WriteFault
outcome_unsaid (CycleSpent slots) = outcomes.WriteFault
outcome_unsaid ReadFault = outcomes.ReadFault
outcome_unsaid InputFault = outcomes.ReadFault
outcome_unsaid WriteFault = outcomes.WriteFault
outcome_unsaid NoMemory = outcomes.NoMemory

-- it runs an image, and shows its output
abbrev pub ShowsOutput : Task → Type 0
ShowsOutput (tasks.Run settings shows.Output image) = Unit {0}
ShowsOutput task = ⊥

-- it runs a linked image, whose bytes begin as those of one, and so takes from the input
abbrev pub TakesFor : Task → World → World → Type 0
TakesFor (tasks.Run settings show word) old new = (bytes : List ℕ) × ReadsLinked word bytes old new
TakesFor (tasks.Profile settings word) old new =
    (operands : List (List ℕ)) × AreFiles old.files word (word + 2) operands × (is_linked (text_of_word operands 0) ≡ true)
TakesFor (tasks.Cycle settings rounds table) old new = (operands : List (List ℕ)) × AreFiles old.files table old.words operands
TakesFor task old new = ⊥

-- the words say such a command
abbrev pub TakesInput : (words : List (List ℕ)) → World → World → Type 0
TakesInput words old new = (command : Command) × (command_of words ≡ Ok command) × TakesFor (task_of command) old new

-- the words say `run` of an image
abbrev pub RunsProgram : (words : List (List ℕ)) → Type 0
RunsProgram words = (settings : Settings) × (image : ℕ) × (command_of words ≡ Ok (Run settings image))

-- what err was given of an ending, and the outcome: the whole line, or less where err failed
pub record SaidEnding (words : List (List ℕ)) (ending : Ending) (old new : Option (List ℕ)) (before now : ℕ) (outcome : Outcome) : Type 0 where
  pub later : before ≤ now
  pub said : (Grew old new (line_of words ending) × (outcome ≡ outcome_of ending))
      ⊎ (SaidLess (is_fault ending) (line_of words ending) old new before now × (outcome ≡ outcome_unsaid ending))

-- What the program answers: the command ended with a cause, and its line was said.
pub record Answered (words : List (List ℕ)) (old new : World) (err err' : Option (List ℕ)) (faults faults' : ℕ) (outcome : Outcome) : Type 0 where
  pub ending : Ending
  pub executed : Executed words old new ending
  pub said : SaidEnding words ending err err' faults faults' outcome
