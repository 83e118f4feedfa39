-- What `cycle` does: the class files of the operands are linked with the executive of a table of slots and run, and what is told of the slots' activations
-- stands in the line of the run's end. The operands are the table and the class files.
use Rattle.std.specs.Prelude.{◌≡◌, ℕ, ◌^◌, ◌<◌, ◌≤◌, ◌⊎◌, All, List, length, map, drop}
use Rattle.outside.specs.Files.{OnlyWords, AreFiles}
use Rattle.class_pool.specs.declared.class.ClassFile.{ClassFile}
use Rattle.program_tables.specs.Resolved.{resolved}
use Rattle.machine_memory.specs.declared.timing.Config.{Config}
use Rattle.jop_core.specs.State as machine
use Rattle.jop_core.specs.Reset.{linked_reset}
use Rattle.slot_table.specs.declared.slot.Slot.{Slot}
use Rattle.slot_table.specs.Slots.{length_of}
use Rattle.run_follower.specs.declared.watch.slots.Slots.{Slots}
use Rattle.run_follower.specs.Watch.Watched.{slots_of}
use Rattle.run_follower.specs.Watch.Counting.{SlotCount, no_slots}
use Rattle.boundary.specs.Setting.{Setting}
use Rattle.run_devices.specs.Lent.{Lent, wired}
use Rattle.jopizer.specs.Linked.{Parts}
use Rattle.command_line.specs.declared.command.Settings.{Settings}
use Rattle.analysis_commands.specs.Analysis.{named_or_number}
use Rattle.analysis_commands.specs.Executive.{IsExecutive}
use Rattle.answer_lines.specs.declared.line.Counts.{Counts}
use Rattle.answer_lines.specs.declared.line.SlotCounts.{SlotCounts}
use Rattle.run_commands.specs.declared.program_end.ProgramEnd.{ProgramEnd}
use Rattle.endings.specs.declared.outcome.Ending.{Ending}
use Rattle.endings.specs.declared.outcome.Ending.TheVariants.{Ended, Uncaught, Spent, CycleEnded, CycleUncaught, CycleSpent, NoMemory}
use Rattle.endings.specs.Line.{text_of_word}
use Rattle.endings.specs.Phase.{HasSettings}
use Rattle.endings.specs.World.{World, IsQuiet}
use Rattle.endings.specs.Settings.{linked_setting}
use Rattle.endings.specs.Fitting.{CodesFit}
use Rattle.run_commands.specs.LinkedFile.{SaysEnd}
use Rattle.endings.specs.Fitting.{IsUnheld}
use Rattle.endings.specs.Linking.{files_of, OperandsFault}
use Rattle.run_commands.specs.Following.{RanSo, heres_of}
use Rattle.run_commands.specs.Profiling.{unwatched}
use Rattle.endings.specs.Executive.{EndsUnready, IsReadied}

-- ---- the run

-- Of the slots of these lengths the numbers are those of the activations that are among all that is seen of the run, and that the executive's calls began.
pub record Cycles (g : Setting) (reset : machine.MachineState) (limit : ℕ) (old new : Lent) (name : ℕ → List ℕ) (lengths : List ℕ) (numbers : Slots)
    (f : ProgramEnd)
    : Type 0 where
  pub ran : RanSo g reset limit (wired old) (wired new) f
  pub numbers_are : (executive : ℕ) → IsExecutive g.program name executive
      → numbers ≡ slots_of executive lengths (heres_of g reset limit (wired old) (wired new) f ran)

-- A machine with the settings holds the image, and it was run from reset.
pub record CyclesWith (s : Settings) (l : Parts) (slots : List Slot) (old new : Lent) (numbers : Slots) (f : ProgramEnd) : Type 0 where
  pub config : Config
  pub has : HasSettings s config
  pub cycles : Cycles (linked_setting l.classes s.stack config.memory) (linked_reset s.stack l.laid.words config) s.cycles old new
      (named_or_number l.classes) (map length_of slots) numbers f

-- what counts the slots before the run
pub record IsCounter (cs : List ClassFile) (slots : List Slot) (frames : ℕ) (s : SlotCount) : Type 0 where
  pub number : ℕ
  pub is : s ≡ no_slots number (map length_of slots) frames
  pub fits : All (λ n. n < 2 ^ 64) (map length_of slots)
  pub executive : (m : ℕ) → IsExecutive (resolved cs) (named_or_number cs) m → m ≡ number

-- ---- the ending

abbrev pub counts_with : Slots → Counts → SlotCounts
counts_with n counts = record { slots = n.ended; late = n.late; idle = n.idle; clock = counts.clock }

-- the same ending, with the slots in place of the machine's hits and misses
abbrev pub with_slots : Slots → Ending → Ending
with_slots n (Ended counts) = CycleEnded (counts_with n counts)
with_slots n (Uncaught class name counts) = CycleUncaught class name (counts_with n counts)
with_slots n (Spent counts) = CycleSpent (counts_with n counts)
with_slots n ending = ending

-- an ending of a run without a fault
abbrev pub EndsCycle : Ending → Type 0
EndsCycle (CycleEnded slots) = Unit {0}
EndsCycle (CycleUncaught class name slots) = Unit {0}
EndsCycle (CycleSpent slots) = Unit {0}
EndsCycle ending = ⊥

-- ---- what was linked

-- What was linked was run, and the ending says how the run ended, with the slots.
pub record RanCycle (s : Settings) (l : Parts) (slots : List Slot) (old new : Lent) (ending : Ending) : Type 0 where
  pub codes : CodesFit s l
  pub memory : length l.laid.words ≤ s.memory
  pub numbers : Slots
  pub followed : ProgramEnd
  pub ran : CyclesWith s l slots old new numbers followed
  pub end : Ending
  pub says : SaysEnd l.classes followed.end followed.counts end
  pub ending_is : ending ≡ with_slots numbers end

-- or there was no memory
abbrev pub CyclesHeld : Settings → Parts → List Slot → (old new : Lent) → Ending → Type 0
CyclesHeld s l slots old new ending = ((ending ≡ NoMemory) × (new ≡ old)) ⊎ RanCycle s l slots old new ending

-- or a machine with the settings doesn't hold it
abbrev pub CyclesLinked : Settings → Parts → List Slot → (old new : Lent) → Ending → Type 0
CyclesLinked s l slots old new ending = (IsUnheld s l ending × (new ≡ old)) ⊎ CyclesHeld s l slots old new ending

-- ---- the operands

-- the class files, which stand behind the table
abbrev pub cycled_files : (operands : List (List ℕ)) → List (List ℕ)
cycled_files operands = drop 1 operands

-- the class files are linked with the executive of the table, and that was run
pub record CyclesReadied (s : Settings) (rounds : ℕ) (operands : List (List ℕ)) (old new : Lent) (ending : Ending) : Type 0 where
  pub slots : List Slot
  pub linked : Parts
  pub readied : IsReadied (text_of_word operands 0) rounds (cycled_files operands) slots linked
  pub cycles : CyclesLinked s linked slots old new ending

abbrev pub CyclesOperands : Settings → (rounds : ℕ) → (operands : List (List ℕ)) → (old new : Lent) → Ending → Type 0
CyclesOperands s rounds operands old new ending =
    (EndsUnready (text_of_word operands 0) rounds (cycled_files operands) ending × (new ≡ old)) ⊎ CyclesReadied s rounds operands old new ending

-- ---- the files

-- the files of the words from the table on were read, and what they are linked to was run
pub record CyclesRead (s : Settings) (rounds table : ℕ) (old new : World) (ending : Ending) : Type 0 where
  pub operands : List (List ℕ)
  pub only : OnlyWords (files_of old) (files_of new) table old.words
  pub are : AreFiles old.files table old.words operands
  pub cycles : CyclesOperands s rounds operands (unwatched old) (unwatched new) ending
  pub watch : new.watch ≡ old.watch

-- How a cycle ends whose table is the file of a word, each ending with its cause.
abbrev pub CyclesFiles : Settings → (rounds table : ℕ) → World → World → Ending → Type 0
CyclesFiles s rounds table old new ending =
    (OperandsFault table old.words (files_of old) (files_of new) ending × IsQuiet old new) ⊎ CyclesRead s rounds table old new ending
