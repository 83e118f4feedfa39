-- Where a refusal must come: each law has the cause of one, in the order in which a command looks for them. Where that stands and nothing fails, the refusal is
-- answered; or there was no memory. `Correct` has the laws of what refuses class files (`link`), texts and methods.
use Rattle.std.specs.Prelude.{◌≡◌, ℕ, Err, ◌+◌, ◌<◌, ◌≤◌, List, [], length, slice_index_or, sum_by, Some, ◌⊎◌, Ok, ◌∷◌, Option, None, Vec}
use Rattle.std.specs.declared.alloc.Global.{Global}
use Rattle.image_file.specs.Linked as file
use Rattle.image_file.specs.Linked.{LinkedContent}
use Rattle.command_line.specs.declared.command.Command.TheVariants.{Plan as ToPlan, Cycle as ToCycle}
use Rattle.endings.specs.declared.outcome.Ending.TheVariants.{Refused, TooLong}
use Rattle.endings.specs.declared.outcome.Refusal.TheVariants.{Usage, TooBig, BadImage, Differs, MethodTooLong, MemoryTooSmall}
use Rattle.endings.specs.Fitting.{IsTooLong}
use Rattle.endings.specs.Fitting.{blocks_of_code}
use Rattle.outside.specs.Outside.{Rose}
use Rattle.outside.specs.Files.{most_bytes}
use Rattle.endings.specs.Fitting.{NamesMethod}
use Rattle.jopizer.specs.Images.{DiffersFirst}
use Rattle.jop_cli.specs.promises.Words.{command_of, Call, Command, task_of, NothingFailed, LacksMemory, BareContent, IsBareFile, LinkRefusal, RefusesFiles}
use Rattle.jop_cli.specs.promises.Words.{Settings, Parts, IsLinked, image_of, Slot, IsLinkedWith, CodesFit}
use Rattle.ask_commands.specs.declared.asking.Question.{Question}
use Rattle.ask_commands.specs.declared.priced_files.PricedQuestion.{PricedQuestion}
use Rattle.ask_commands.specs.declared.priced_files.PricedQuestion.TheVariants.{CheckWith, BoundWith}
use Rattle.jop_cli.specs.declared.task.Task.TheVariants.{Run, Profile, Plan, Cycle, Assemble, Link, Ask, AskWith, Work}
use Rattle.ask_commands.specs.declared.asking.Question.TheVariants.{Check, Bound, Bounds, Shapes, Report, Loops, Headers, Memory, Rtl}
use Rattle.jop_cli.specs.declared.task.Task.{Task}
use Rattle.jop_cli.specs.promises.Answers.{AnswersEnding, AnswersRefusal}
use Rattle.jop_cli.specs.promises.Plan.{AreReadied}

-- ---- the words

-- Words that give no command are answered, with the first word at which none can go on, whatever the files are.
abbrev pub NoCommandIsRefused : Type 0
NoCommandIsRefused =
    (c : Call) (word : ℕ) → command_of c.words ≡ Err word → ¬ Rose c.err_faults_old c.err_faults_new → AnswersEnding c (Refused (Usage word))

-- ---- the files

-- the first word whose file a command reads
abbrev pub first_operand : Task → ℕ
first_operand (Run settings show image) = image
first_operand (Profile settings image) = image
first_operand (Plan settings rounds table) = table
first_operand (Cycle settings rounds table) = table
first_operand (Assemble text) = text
first_operand (Link main first) = first
first_operand (Ask asked) = asked.image
first_operand (AskWith asked) = asked.image
first_operand (Work n) = 0

-- and the word behind the last one, where there are so many words; `work` reads no file
abbrev pub end_of_operands : (words : ℕ) → Task → ℕ
end_of_operands words (Run settings show image) = image + 1
end_of_operands words (Profile settings image) = image + 2
end_of_operands words (Plan settings rounds table) = words
end_of_operands words (Cycle settings rounds table) = words
end_of_operands words (Assemble text) = text + 1
end_of_operands words (Link main first) = words
end_of_operands words (Ask asked) = asked.image + asked.operands
end_of_operands words (AskWith asked) = asked.image + asked.operands
end_of_operands words (Work n) = 0

-- the files of the words from one on are told to have these bytes, not too many together
pub record TellsFiles (c : Call) (first : ℕ) (files : List (List ℕ)) : Type 0 where
  pub told : (k : ℕ) → k < length files → c.old.files (first + k) ≡ Some (slice_index_or files k [])
  pub few : sum_by length files ≤ most_bytes

-- The files of the words from one up to an operand are, and with the operand's they have too many: so many.
pub record PassesMost (c : Call) (first operand sum : ℕ) : Type 0 where
  pub before : List (List ℕ)
  pub many : first + length before ≡ operand
  pub tells : TellsFiles c first before
  pub bytes : List ℕ
  pub told : c.old.files operand ≡ Some bytes
  pub sum_is : sum ≡ sum_by length before + length bytes
  pub past : most_bytes < sum

-- Files of operands that are too long together are answered, with the first operand at which they are.
abbrev pub LongFilesAreRefused : Type 0
LongFilesAreRefused =
    (c : Call) (command : Command) (operand sum : ℕ) → command_of c.words ≡ Ok command → operand < end_of_operands c.old.words (task_of command)
    → PassesMost c (first_operand (task_of command)) operand sum → NothingFailed c
    → AnswersEnding c (Refused (TooBig operand sum)) ⊎ LacksMemory c

-- ---- the image

-- the image of the first operand is opened
abbrev pub OpensImage : Task → Type 0
OpensImage (Run settings show image) = Unit {0}
OpensImage (Profile settings image) = Unit {0}
OpensImage (Ask asked) = Unit {0}
OpensImage (AskWith asked) = Unit {0}
OpensImage task = ⊥

-- the file of facts is told, where a task reads one, and with these files it has no more bytes than a command's files may have
abbrev pub TellsFacts : Call → Task → (operands : List (List ℕ)) → Type 0
TellsFacts c (AskWith asked) operands =
    (facts : List ℕ) × (c.old.files asked.facts ≡ Some facts) × (sum_by length operands + length facts ≤ most_bytes)
TellsFacts c task operands = Unit {0}

-- The words say such a command, and the files that it reads are told; the image's has these bytes.
pub record TakesImage (c : Call) (task : Task) (bytes : List ℕ) : Type 0 where
  pub command : Command
  pub said : command_of c.words ≡ Ok command
  pub does : task_of command ≡ task
  pub opens : OpensImage task
  pub others : List (List ℕ)
  pub many : first_operand task + length (bytes ∷ others) ≡ end_of_operands c.old.words task
  pub tells : TellsFiles c (first_operand task) (bytes ∷ others)
  pub facts : TellsFacts c task (bytes ∷ others)

-- the bytes are the file of no image, linked or bare
abbrev pub IsNoImage : (bytes : List ℕ) → Type 0
IsNoImage bytes = ((image : LinkedContent) → ¬ file.IsLinkedFile bytes image) × ((image : BareContent) → ¬ IsBareFile bytes image)

abbrev pub BadImagesAreRefused : Type 0
BadImagesAreRefused =
    (c : Call) (task : Task) (bytes : List ℕ) → TakesImage c task bytes → IsNoImage bytes → NothingFailed c
    → AnswersEnding c (Refused BadImage) ⊎ LacksMemory c

-- An image whose class files are refused is answered as `link` answers these.
abbrev pub UnlinkedImagesAreRefused : Type 0
UnlinkedImagesAreRefused =
    (c : Call) (task : Task) (bytes : List ℕ) (image : LinkedContent) (refusal : LinkRefusal) → TakesImage c task bytes → file.IsLinkedFile bytes image
    → RefusesFiles image.files image.main refusal → NothingFailed c
    → AnswersRefusal c image.files refusal ⊎ LacksMemory c

-- One whose class files are linked to other words is answered with the first that differs.
abbrev pub DifferingImagesAreRefused : Type 0
DifferingImagesAreRefused =
    (c : Call) (task : Task) (bytes : List ℕ) (image : LinkedContent) (place : ℕ) (kept linked : Option ℕ) → TakesImage c task bytes
    → file.IsLinkedFile bytes image → DiffersFirst image place kept linked → NothingFailed c
    → AnswersEnding c (Refused (Differs place kept linked)) ⊎ LacksMemory c

-- ---- the machine

-- the settings whose method cache each code is to fit, where there are any: those by which bounds are taken
abbrev pub cache_asked : Question → Option Settings
cache_asked (Check settings) = Some settings
cache_asked (Bound settings method) = Some settings
cache_asked (Bounds settings) = Some settings
cache_asked (Shapes settings method) = None
cache_asked (Report settings method) = Some settings
cache_asked (Loops further) = None
cache_asked Headers = None
cache_asked Memory = None
cache_asked (Rtl settings) = None

-- and those of a circuit
abbrev pub cache_of : Question → Option Settings
cache_of (Rtl settings) = Some settings
cache_of question = cache_asked question

-- by facts there always are some
abbrev pub cache_with : PricedQuestion → Settings
cache_with (CheckWith settings) = settings
cache_with (BoundWith settings method) = settings

abbrev pub cache_needed : Task → Option Settings
cache_needed (Run settings show image) = Some settings
cache_needed (Profile settings image) = Some settings
cache_needed (Plan settings rounds table) = Some settings
cache_needed (Cycle settings rounds table) = Some settings
cache_needed (Ask asked) = cache_of asked.question
cache_needed (AskWith asked) = Some (cache_with asked.question)
cache_needed task = None

-- the settings whose memory is to hold the words, where there are any: those of a circuit
abbrev pub memory_asked : Question → Option Settings
memory_asked (Rtl settings) = Some settings
memory_asked question = None

-- and those of a command that runs them
abbrev pub memory_needed : Task → Option Settings
memory_needed (Run settings show image) = Some settings
memory_needed (Profile settings image) = Some settings
memory_needed (Cycle settings rounds table) = Some settings
memory_needed (Ask asked) = memory_asked asked.question
memory_needed task = None

-- What a command works on: what is linked, whose image it takes; or what the class files behind a table are linked to, with the executive of its slots.
pub data WorksOn (c : Call) (task : Task) (l : Parts) : Type 0 where
  of_image : (bytes : List ℕ) → TakesImage c task bytes → IsLinked l → file.IsLinkedFile bytes (image_of l) → WorksOn c task l
  of_plan : (settings : Settings) (rounds table bounds first : ℕ) (slots : List Slot) (bounds_text : List ℕ) (files : List (List ℕ))
      → task ≡ Plan settings rounds table → command_of c.words ≡ Ok (ToPlan settings rounds table bounds first)
      → AreReadied c table rounds slots (bounds_text ∷ []) files → IsLinkedWith slots rounds files l → WorksOn c task l
  of_cycle : (settings : Settings) (rounds table first : ℕ) (slots : List Slot) (files : List (List ℕ))
      → task ≡ Cycle settings rounds table → command_of c.words ≡ Ok (ToCycle settings rounds table first)
      → AreReadied c table rounds slots [] files → IsLinkedWith slots rounds files l → WorksOn c task l

-- The line names the method, and the blocks that its code takes.
pub record AnswersTooLong (c : Call) (settings : Settings) (l : Parts) (method blocks : ℕ) : Type 0 where
  pub name : Vec ℕ Global
  pub names : NamesMethod l.classes method name.items
  pub answers : AnswersEnding c (TooLong method name blocks settings.blocks)

-- A code that doesn't fit the method cache is answered, with the first method that has one.
abbrev pub LongMethodsAreRefused : Type 0
LongMethodsAreRefused =
    (c : Call) (task : Task) (settings : Settings) (l : Parts) (method blocks : ℕ) → WorksOn c task l → cache_needed task ≡ Some settings
    → IsTooLong settings l method blocks → NothingFailed c
    → AnswersTooLong c settings l method blocks ⊎ LacksMemory c

-- So is that of a bare image.
abbrev pub LongBareCodesAreRefused : Type 0
LongBareCodesAreRefused =
    (c : Call) (task : Task) (settings : Settings) (bytes : List ℕ) (image : BareContent) → TakesImage c task bytes → IsBareFile bytes image
    → cache_needed task ≡ Some settings → settings.blocks < blocks_of_code settings image → NothingFailed c
    → AnswersEnding c (Refused (MethodTooLong 0 (blocks_of_code settings image) settings.blocks)) ⊎ LacksMemory c

-- Where each code fits, words that the memory doesn't hold are answered.
abbrev pub SmallMemoriesAreRefused : Type 0
SmallMemoriesAreRefused =
    (c : Call) (task : Task) (settings : Settings) (l : Parts) → WorksOn c task l → memory_needed task ≡ Some settings → CodesFit settings l
    → settings.memory < length l.laid.words → NothingFailed c
    → AnswersEnding c (Refused (MemoryTooSmall (length l.laid.words) settings.memory)) ⊎ LacksMemory c
