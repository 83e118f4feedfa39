-- What is asked of an image, and how it is answered: by a text that is put out, or by the line of an ending.
use Rattle.std.specs.Prelude.{◌≡◌, ℕ, ◌+◌, true, false, ◌⊎◌, List}
use Rattle.outside.specs.Files.{OnlyWords, AreFiles}
use Rattle.image_file.specs.Bare.{BareContent, IsBareFile}
use Rattle.image_file.specs.Linked as file
use Rattle.command_line.specs.Range.{AreSettings}
use Rattle.jopizer.specs.Linked.{Parts, IsLinked, image_of}
use Rattle.ask_commands.specs.declared.asking.Question.{Question}
use Rattle.ask_commands.specs.declared.asking.Question.TheVariants.{Check, Bound, Bounds, Shapes, Report, Loops, Headers, Memory, Rtl}
use Rattle.ask_commands.specs.declared.asking.Asked.{Asked}
use Rattle.endings.specs.declared.outcome.Answer.{Answer}
use Rattle.endings.specs.declared.outcome.Answer.TheVariants.{Text, Ends}
use Rattle.endings.specs.declared.outcome.Ending.{Ending}
use Rattle.program_tables.specs.Resolving.{IsResolved}
use Rattle.boundary.specs.Setting.{IsSetting}
use Rattle.endings.specs.Settings.{linked_setting}
use Rattle.endings.specs.Line.{text_of_word}
use Rattle.endings.specs.Phase.{is_linked}
use Rattle.endings.specs.Opening.{ImageFault, BytesFault}
use Rattle.endings.specs.World.{World, IsQuiet, IsUntaken}
use Rattle.endings.specs.Linking.{files_of, OperandsFault}
use Rattle.ask_commands.specs.Checking.{Checks, ChecksBare}
use Rattle.ask_commands.specs.Bounding.{AnswersBound, BoundsBare, AnswersShapes, EndsNoMethod}
use Rattle.ask_commands.specs.Reporting.{AnswersReport}
use Rattle.ask_commands.specs.AllBounds.{AnswersBounds, AnswersBareBounds}
use Rattle.ask_commands.specs.Headers.{AnswersHeaders, AnswersBareHeaders}
use Rattle.ask_commands.specs.Needs.{AnswersLoops, AnswersNothing, AnswersNeed, AnswersBareNeed}
use Rattle.ask_commands.specs.Circuits.{AnswersCircuit, AnswersBareCircuit}
use Rattle.endings.specs.Putting.{PutsAnswer}

-- ---- the answers, question by question; the operands' texts stand in their order, the image's bytes first

-- an ending with this cause, and no text
abbrev pub EndsBy : (Ending → Type 0) → Answer → Type 0
EndsBy cause (Text text) = ⊥
EndsBy cause (Ends ending) = cause ending

-- settings of a machine, where the question has them, are in their ranges
abbrev pub HasRightSettings : Question → Type 0
HasRightSettings (Check s) = AreSettings s
HasRightSettings (Bound s method) = AreSettings s
HasRightSettings (Bounds s) = AreSettings s
HasRightSettings (Shapes s method) = AreSettings s
HasRightSettings (Report s method) = AreSettings s
HasRightSettings (Loops further) = Unit {0}
HasRightSettings Headers = Unit {0}
HasRightSettings Memory = Unit {0}
HasRightSettings (Rtl s) = AreSettings s

-- what was linked answers so; the words name what is asked for
abbrev pub IsAnswer : (words : List (List ℕ)) → Question → Parts → (operands : List (List ℕ)) → Answer → Type 0
IsAnswer words (Check s) l operands answer = EndsBy (Checks l.classes s (text_of_word operands 1) (text_of_word operands 2)) answer
IsAnswer words (Bound s method) l operands answer = AnswersBound l.classes s (text_of_word operands 1) (text_of_word words method) answer
IsAnswer words (Bounds s) l operands answer = AnswersBounds l.classes s (text_of_word operands 1) answer
IsAnswer words (Shapes s method) l operands answer = AnswersShapes l.classes s (text_of_word operands 1) (text_of_word words method) answer
IsAnswer words (Report s method) l operands answer = AnswersReport l.classes s (text_of_word operands 1) (text_of_word words method) answer
IsAnswer words (Loops further) l operands answer = AnswersLoops further l.classes answer
IsAnswer words Headers l operands answer = AnswersHeaders l.classes (text_of_word operands 1) answer
IsAnswer words Memory l operands answer = AnswersNeed l (text_of_word operands 1) (text_of_word operands 2) answer
IsAnswer words (Rtl s) l operands answer = AnswersCircuit s l answer

-- so does a bare image, which has no classes
abbrev pub IsBareAnswer : Question → BareContent → (operands : List (List ℕ)) → Answer → Type 0
IsBareAnswer (Check s) image operands answer = EndsBy (ChecksBare s image (text_of_word operands 1) (text_of_word operands 2)) answer
IsBareAnswer (Bound s method) image operands answer = EndsBy (BoundsBare s image (text_of_word operands 1)) answer
IsBareAnswer (Bounds s) image operands answer = AnswersBareBounds s image (text_of_word operands 1) answer
IsBareAnswer (Shapes s method) image operands answer = EndsBy (EndsNoMethod s (text_of_word operands 1)) answer
IsBareAnswer (Report s method) image operands answer = EndsBy (BoundsBare s image (text_of_word operands 1)) answer
IsBareAnswer (Loops further) image operands answer = AnswersNothing answer
IsBareAnswer Headers image operands answer = AnswersBareHeaders (text_of_word operands 1) answer
IsBareAnswer Memory image operands answer = AnswersBareNeed image (text_of_word operands 1) (text_of_word operands 2) answer
IsBareAnswer (Rtl s) image operands answer = AnswersBareCircuit s image answer

-- ---- the image

-- the bytes are the file of what was linked, whose classes are resolved and of which machines of any size run the program, and it answers so
pub record AnswersLinked (words : List (List ℕ)) (question : Question) (operands : List (List ℕ)) (answer : Answer) : Type 0 where
  pub linked : Parts
  pub is_linked : IsLinked linked
  pub is_file : file.IsLinkedFile (text_of_word operands 0) (image_of linked)
  pub are_resolved : IsResolved linked.classes
  pub setting : (chip memory : ℕ) → IsSetting (linked_setting linked.classes chip memory)
  pub answers : IsAnswer words question linked operands answer

-- the bytes are a bare image, and it answers so
pub record AnswersBare (question : Question) (operands : List (List ℕ)) (answer : Answer) : Type 0 where
  pub image : BareContent
  pub bare : IsBareFile (text_of_word operands 0) image
  pub answers : IsBareAnswer question image operands answer

-- how an image answers whose bytes begin as those of a linked one, or don't
abbrev pub Answers : (words : List (List ℕ)) → Question → (operands : List (List ℕ)) → Answer → Type 0
Answers words question operands answer =
    ((is_linked (text_of_word operands 0) ≡ true) × (EndsBy (BytesFault (text_of_word operands 0)) answer ⊎ AnswersLinked words question operands answer))
    ⊎ ((is_linked (text_of_word operands 0) ≡ false) × (EndsBy (ImageFault (text_of_word operands 0)) answer ⊎ AnswersBare question operands answer))

-- ---- the files

-- the files of the operands were read, and what answers was put
pub record AsksRead (words : List (List ℕ)) (asked : Asked) (old new : World) (ending : Ending) : Type 0 where
  pub operands : List (List ℕ)
  pub only : OnlyWords (files_of old) (files_of new) asked.image (asked.image + asked.operands)
  pub are : AreFiles old.files asked.image (asked.image + asked.operands) operands
  pub answer : Answer
  pub answers : Answers words asked.question operands answer
  pub puts : PutsAnswer answer old.out new.out old.out_faults new.out_faults ending
  pub watch : new.watch ≡ old.watch
  pub input : IsUntaken old new

-- How a question ends that is asked of the image of a word, each ending with its cause.
abbrev pub AsksFiles : (words : List (List ℕ)) → Asked → World → World → Ending → Type 0
AsksFiles words asked old new ending =
    (OperandsFault asked.image (asked.image + asked.operands) (files_of old) (files_of new) ending × IsQuiet old new)
    ⊎ AsksRead words asked old new ending
