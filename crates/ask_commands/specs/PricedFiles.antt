-- What is asked of an image by facts, whose file is that of a word elsewhere than the operands.
use Rattle.std.specs.Prelude.{◌≡◌, ℕ, ◌+◌, ◌<◌, ◌≤◌, true, false, ◌⊎◌, List, length, sum_by}
use Rattle.std.specs.declared.option.Option.{Option}
use Rattle.outside.specs.Outside.{Rose, HasFileLength, IsWhole}
use Rattle.outside.specs.Files.{FilesTold, OnlyWords, AreFiles, most_bytes}
use Rattle.image_file.specs.Bare.{BareContent, IsBareFile}
use Rattle.image_file.specs.Linked as file
use Rattle.command_line.specs.Range.{AreSettings}
use Rattle.jopizer.specs.Linked.{Parts, IsLinked, image_of}
use Rattle.program_tables.specs.Resolving.{IsResolved}
use Rattle.boundary.specs.Setting.{IsSetting}
use Rattle.endings.specs.Settings.{linked_setting}
use Rattle.endings.specs.declared.outcome.Answer.{Answer}
use Rattle.endings.specs.declared.outcome.Ending.{Ending}
use Rattle.endings.specs.declared.outcome.Ending.TheVariants.{Refused, ReadFault, NoMemory}
use Rattle.endings.specs.declared.outcome.Refusal.TheVariants.{TooBig}
use Rattle.endings.specs.Line.{text_of_word}
use Rattle.endings.specs.Phase.{is_linked}
use Rattle.endings.specs.Opening.{ImageFault, BytesFault}
use Rattle.endings.specs.World.{World, IsQuiet, IsUntaken}
use Rattle.endings.specs.Linking.{files_of, OperandsFault}
use Rattle.endings.specs.Putting.{PutsAnswer}
use Rattle.ask_commands.specs.declared.priced_files.PricedQuestion.{PricedQuestion}
use Rattle.ask_commands.specs.declared.priced_files.PricedQuestion.TheVariants.{CheckWith, BoundWith}
use Rattle.ask_commands.specs.declared.priced_files.AskedWith.{AskedWith}
use Rattle.ask_commands.specs.Asking.{EndsBy}
use Rattle.ask_commands.specs.Pricing.{AnswersBoundWith, BoundsBareWith, ChecksWith, ChecksBareWith}

-- ---- the answers, question by question; the operands' texts stand in their order, the image's bytes first

-- the settings of the machine are in their ranges
abbrev pub HasPricedSettings : PricedQuestion → Type 0
HasPricedSettings (CheckWith s) = AreSettings s
HasPricedSettings (BoundWith s method) = AreSettings s

-- what was linked answers so; the words name what is asked for
abbrev pub IsPricedAnswer : (words : List (List ℕ)) → PricedQuestion → Parts → (operands : List (List ℕ)) → (facts : List ℕ) → Answer → Type 0
IsPricedAnswer words (CheckWith s) l operands facts answer =
    EndsBy (ChecksWith l.classes s (text_of_word operands 1) facts (text_of_word operands 2)) answer
IsPricedAnswer words (BoundWith s method) l operands facts answer =
    AnswersBoundWith l.classes s (text_of_word operands 1) facts (text_of_word words method) answer

-- so does a bare image, which has no classes
abbrev pub IsBarePricedAnswer : PricedQuestion → BareContent → (operands : List (List ℕ)) → (facts : List ℕ) → Answer → Type 0
IsBarePricedAnswer (CheckWith s) image operands facts answer =
    EndsBy (ChecksBareWith s image (text_of_word operands 1) facts (text_of_word operands 2)) answer
IsBarePricedAnswer (BoundWith s method) image operands facts answer = EndsBy (BoundsBareWith s image (text_of_word operands 1) facts) answer

-- ---- the image

-- the bytes are the file of what was linked, whose classes are resolved and of which machines of any size run the program, and it answers so
pub record AnswersLinkedWith (words : List (List ℕ)) (question : PricedQuestion) (operands : List (List ℕ)) (facts : List ℕ) (answer : Answer) : Type 0 where
  pub linked : Parts
  pub is_linked : IsLinked linked
  pub is_file : file.IsLinkedFile (text_of_word operands 0) (image_of linked)
  pub are_resolved : IsResolved linked.classes
  pub setting : (chip memory : ℕ) → IsSetting (linked_setting linked.classes chip memory)
  pub answers : IsPricedAnswer words question linked operands facts answer

-- the bytes are a bare image, and it answers so
pub record AnswersBareWith (question : PricedQuestion) (operands : List (List ℕ)) (facts : List ℕ) (answer : Answer) : Type 0 where
  pub image : BareContent
  pub bare : IsBareFile (text_of_word operands 0) image
  pub answers : IsBarePricedAnswer question image operands facts answer

-- how an image answers whose bytes begin as those of a linked one, or don't
abbrev pub AnswersWith : (words : List (List ℕ)) → PricedQuestion → (operands : List (List ℕ)) → (facts : List ℕ) → Answer → Type 0
AnswersWith words question operands facts answer =
    ((is_linked (text_of_word operands 0) ≡ true)
    × (EndsBy (BytesFault (text_of_word operands 0)) answer ⊎ AnswersLinkedWith words question operands facts answer))
    ⊎ ((is_linked (text_of_word operands 0) ≡ false)
    × (EndsBy (ImageFault (text_of_word operands 0)) answer ⊎ AnswersBareWith question operands facts answer))

-- ---- the files

-- The files of the operands were read, which are the words from one up to another, and then the file of facts was asked for, and no other one.
pub record ReadsOperands (asked : AskedWith) (operands : List (List ℕ)) (old new : World) : Type 0 where
  pub between : FilesTold
  pub only : OnlyWords (files_of old) between asked.image (asked.image + asked.operands)
  pub are : AreFiles old.files asked.image (asked.image + asked.operands) operands
  pub then : OnlyWords between (files_of new) asked.facts (asked.facts + 1)

-- why the file of the word wasn't read behind operands with so many bytes, by what is told of it and its counts of faults
abbrev pub IsFactsEnding : (word bytes : ℕ) → (told : Option (List ℕ)) → (before now : ℕ) → Ending → Type 0
IsFactsEnding word bytes told before now (Refused (TooBig operand sum)) =
    (operand ≡ word) × (n : ℕ) × HasFileLength told n × (sum ≡ bytes + n) × (most_bytes < sum)
IsFactsEnding word bytes told before now ReadFault = Rose before now
IsFactsEnding word bytes told before now NoMemory = Unit {0}
IsFactsEnding word bytes told before now ending = ⊥

-- the operands were read, and the file of facts wasn't
pub record FailsAtFacts (asked : AskedWith) (old new : World) (ending : Ending) : Type 0 where
  pub operands : List (List ℕ)
  pub reads : ReadsOperands asked operands old new
  pub fault : IsFactsEnding asked.facts (sum_by length operands) (old.files asked.facts) (old.file_faults asked.facts) (new.file_faults asked.facts) ending

-- all were read, which have no more bytes together than a command's files may have, and what answers was put
pub record AsksReadWith (words : List (List ℕ)) (asked : AskedWith) (old new : World) (ending : Ending) : Type 0 where
  pub operands : List (List ℕ)
  pub facts : List ℕ
  pub reads : ReadsOperands asked operands old new
  pub facts_are : IsWhole (old.files asked.facts) facts
  pub few : sum_by length operands + length facts ≤ most_bytes
  pub answer : Answer
  pub answers : AnswersWith words asked.question operands facts answer
  pub puts : PutsAnswer answer old.out new.out old.out_faults new.out_faults ending
  pub watch : new.watch ≡ old.watch
  pub input : IsUntaken old new

-- How a question ends that is asked of the image of a word by facts, each ending with its cause.
abbrev pub AsksFilesWith : (words : List (List ℕ)) → AskedWith → World → World → Ending → Type 0
AsksFilesWith words asked old new ending =
    (OperandsFault asked.image (asked.image + asked.operands) (files_of old) (files_of new) ending × IsQuiet old new)
    ⊎ ((FailsAtFacts asked old new ending × IsQuiet old new) ⊎ AsksReadWith words asked old new ending)
