-- What `headers` finds of an image: its loops as a text of bounds, with the lines of their sources.
use Rattle.std.specs.Prelude.{◌≡◌, ℕ, List, []}
use Rattle.class_pool.specs.declared.class.ClassFile.{ClassFile}
use Rattle.bound_texts.specs.Sources.Notes.{Note}
use Rattle.bound_texts.specs.Sources.Grammar.{AreNotesRead}
use Rattle.source_headers.specs.declared.fault.HeaderFault.{HeaderFault}
use Rattle.source_headers.specs.declared.fault.HeaderFault.TheVariants as faults
use Rattle.source_headers.specs.Files.{IsHeaderFile, IsHeaderFault, IsLinesFault}
use Rattle.answer_lines.specs.declared.unanswered.Cause.TheVariants.{NoLoop}
use Rattle.endings.specs.declared.outcome.Refusal.TheVariants.{BadLines, TwiceLines}
use Rattle.endings.specs.declared.outcome.Answer.{Answer}
use Rattle.endings.specs.declared.outcome.Answer.TheVariants.{Text, Ends}
use Rattle.endings.specs.declared.outcome.Ending.{Ending}
use Rattle.endings.specs.declared.outcome.Ending.TheVariants.{Refused, NotAnswered, NoMemory}

-- the ending that says why there is no text
abbrev pub header_ending : HeaderFault → Ending
header_ending (faults.BadLine line) = Refused (BadLines line)
header_ending (faults.TwiceLine line) = Refused (TwiceLines line)
header_ending (faults.Stray subject) = NotAnswered NoLoop subject
header_ending faults.NoMemory = NoMemory

-- this refuses the lines, or is the first of them that strays, and the ending says it
pub record EndsWithoutHeaders (cs : List ClassFile) (lines : List ℕ) (ending : Ending) : Type 0 where
  pub fault : HeaderFault
  pub is : IsHeaderFault cs lines fault
  pub says : ending ≡ header_ending fault

-- the text of the program's headers with what the lines say, or why there is none
abbrev pub AnswersHeaders : List ClassFile → (lines : List ℕ) → Answer → Type 0
AnswersHeaders cs lines (Text text) = IsHeaderFile cs lines text.items
AnswersHeaders cs lines (Ends ending) = EndsWithoutHeaders cs lines ending

-- lines are read, and there is nothing to put of an image without classes
pub record SaysNoHeader (lines text : List ℕ) : Type 0 where
  pub notes : List Note
  pub read : AreNotesRead lines notes
  pub says : text ≡ []

-- this refuses the lines, and the ending says it
pub record EndsWithoutLines (lines : List ℕ) (ending : Ending) : Type 0 where
  pub fault : HeaderFault
  pub is : IsLinesFault lines fault
  pub says : ending ≡ header_ending fault

abbrev pub AnswersBareHeaders : (lines : List ℕ) → Answer → Type 0
AnswersBareHeaders lines (Text text) = SaysNoHeader lines text.items
AnswersBareHeaders lines (Ends ending) = EndsWithoutLines lines ending
