-- What refuses the texts that a question is asked of: each law has the cause, which is one, and its answer; or there was no memory.
use Rattle.std.specs.Prelude.{◌≡◌, ◌≢◌, ◌⊎◌, ℕ, Some, List, length, Ok, Vec}
use Rattle.std.specs.declared.alloc.Global.{Global}
use Rattle.image_file.specs.Linked as file
use Rattle.answer_lines.specs.declared.analysis.AnalysisFault.{AnalysisFault}
use Rattle.answer_lines.specs.declared.analysis.AnalysisFault.TheVariants as analysis
use Rattle.answer_lines.specs.BoundsFaults.{IsBoundsFault}
use Rattle.analysis_commands.specs.declared.memory.MemoryRefusal.{MemoryRefusal}
use Rattle.analysis_commands.specs.declared.memory.MemoryRefusal.TheVariants as needs
use Rattle.analysis_commands.specs.Memory.{IsBadText}
use Rattle.source_headers.specs.declared.fault.HeaderFault.{HeaderFault}
use Rattle.source_headers.specs.declared.fault.HeaderFault.TheVariants as headers
use Rattle.source_headers.specs.Files.{IsLinesFault}
use Rattle.source_headers.specs.Straying.{IsFirstStray}
use Rattle.name_laws.specs.Written.{written_name}
use Rattle.bound_texts.specs.Sources.Notes.{Note}
use Rattle.bound_texts.specs.Sources.Grammar.{AreNotesRead}
use Rattle.answer_lines.specs.declared.unanswered.Cause.TheVariants.{NoLoop}
use Rattle.endings.specs.declared.outcome.Ending.TheVariants.{NotAnswered}
use Rattle.endings.specs.AnalysisFaults.{fault_ending}
use Rattle.ask_commands.specs.declared.asking.Asked.{Asked}
use Rattle.ask_commands.specs.declared.asking.Question.TheVariants.{Headers, Memory}
use Rattle.ask_commands.specs.Headers.{header_ending}
use Rattle.ask_commands.specs.Needs.{memory_ending}
use Rattle.jop_cli.specs.declared.task.Task.TheVariants.{Ask}
use Rattle.jop_cli.specs.promises.Words.{Call, Command, command_of, task_of, Settings, Parts, IsLinked, image_of, text_of_word, CodesFit}
use Rattle.jop_cli.specs.promises.Words.{OperandsAreTold, NothingFailed, LacksMemory}
use Rattle.jop_cli.specs.promises.Answers.{AnswersEnding}
use Rattle.jop_cli.specs.promises.Refusals.{cache_asked}

-- The words ask this of the image of what is linked and of texts, and the files of all are told.
pub record AsksLinked (c : Call) (asked : Asked) (l : Parts) (files : List (List ℕ)) : Type 0 where
  pub command : Command
  pub said : command_of c.words ≡ Ok command
  pub does : task_of command ≡ Ask asked
  pub long : length files ≡ asked.operands
  pub told : OperandsAreTold c asked.image files
  pub is_linked : IsLinked l
  pub is_file : file.IsLinkedFile (text_of_word files 0) (image_of l)

-- `check`, `bound --method`, `bound --all` and `report`: where each code fits the method cache, a text of bounds is refused by its first line that is none
-- of the grammar, or bounds a loop once more.
abbrev pub BadBoundsAreRefused : Type 0
BadBoundsAreRefused =
    (c : Call) (asked : Asked) (l : Parts) (files : List (List ℕ)) (settings : Settings) (fault : AnalysisFault) → AsksLinked c asked l files
    → cache_asked asked.question ≡ Some settings → CodesFit settings l → IsBoundsFault (text_of_word files 1) fault → fault ≢ analysis.NoMemory
    → NothingFailed c
    → AnswersEnding c (fault_ending settings fault) ⊎ LacksMemory c

-- `memory`: so are its two texts, that of bounds first.
abbrev pub BadSizesAreRefused : Type 0
BadSizesAreRefused =
    (c : Call) (asked : Asked) (l : Parts) (files : List (List ℕ)) (refusal : MemoryRefusal) → AsksLinked c asked l files → asked.question ≡ Memory
    → IsBadText (text_of_word files 1) (text_of_word files 2) refusal → refusal ≢ needs.NoMemory → NothingFailed c
    → AnswersEnding c (memory_ending refusal) ⊎ LacksMemory c

-- `headers`: so is its text of lines.
abbrev pub BadLinesAreRefused : Type 0
BadLinesAreRefused =
    (c : Call) (asked : Asked) (l : Parts) (files : List (List ℕ)) (fault : HeaderFault) → AsksLinked c asked l files → asked.question ≡ Headers
    → IsLinesFault (text_of_word files 1) fault → fault ≢ headers.NoMemory → NothingFailed c
    → AnswersEnding c (header_ending fault) ⊎ LacksMemory c

-- The line names what says something of no loop.
pub record AnswersStray (c : Call) (subject : List ℕ) : Type 0 where
  pub named : Vec ℕ Global
  pub names : named.items ≡ subject
  pub answers : AnswersEnding c (NotAnswered NoLoop named)

-- Of lines that are read, the first that says something of no loop is answered.
abbrev pub StrayLinesAreRefused : Type 0
StrayLinesAreRefused =
    (c : Call) (asked : Asked) (l : Parts) (files : List (List ℕ)) (notes : List Note) (subject : List ℕ) → AsksLinked c asked l files
    → asked.question ≡ Headers → AreNotesRead (text_of_word files 1) notes → IsFirstStray l.classes (written_name l.classes) notes subject → NothingFailed c
    → AnswersStray c subject ⊎ LacksMemory c
