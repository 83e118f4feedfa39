-- What `plan` does: the class files of the operands are linked with the executive of a table of slots, and the bound of each slot's method is put beside
-- the slot's length. The operands are the table, the bounds of loops, and the class files.
use Rattle.std.specs.Prelude.{◌≡◌, ℕ, ◌⊎◌, List, drop}
use Rattle.outside.specs.Files.{OnlyWords, AreFiles}
use Rattle.class_pool.specs.declared.class.ClassFile.{ClassFile}
use Rattle.slot_table.specs.declared.slot.Slot.{Slot}
use Rattle.jopizer.specs.Linked.{Parts}
use Rattle.command_line.specs.declared.command.Settings.{Settings}
use Rattle.answer_lines.specs.declared.unanswered.Cause.TheVariants.{Plan}
use Rattle.slot_plans.specs.declared.plan.NotPlanned.{NotPlanned}
use Rattle.slot_plans.specs.declared.plan.NotPlanned.TheVariants as plans
use Rattle.slot_plans.specs.Plan.{IsPlan, IsNotPlanned}
use Rattle.endings.specs.declared.outcome.Answer.{Answer}
use Rattle.endings.specs.declared.outcome.Answer.TheVariants.{Text, Ends}
use Rattle.endings.specs.declared.outcome.Ending.{Ending}
use Rattle.endings.specs.declared.outcome.Ending.TheVariants.{NotAnswered, NoMemory}
use Rattle.endings.specs.Line.{text_of_word}
use Rattle.endings.specs.World.{World, IsQuiet, IsUntaken}
use Rattle.endings.specs.Linking.{files_of, OperandsFault}
use Rattle.endings.specs.AnalysisFaults.{fault_ending}
use Rattle.endings.specs.Putting.{PutsAnswer}
use Rattle.endings.specs.Executive.{EndsUnready, IsReadied}

-- ---- what was linked

-- the ending that says why there is no plan
abbrev pub plan_ending : Settings → NotPlanned → Ending
plan_ending s (plans.NoAnalysis fault) = fault_ending s fault
plan_ending s (plans.Refused cause subject) = NotAnswered (Plan cause) subject
plan_ending s plans.NoMemory = NoMemory

-- this refuses the bounds, or keeps a slot from its length, and the ending says it
pub record EndsNotPlanned (cs : List ClassFile) (s : Settings) (slots : List Slot) (bounds_text : List ℕ) (ending : Ending) : Type 0 where
  pub cause : NotPlanned
  pub is : IsNotPlanned cs s bounds_text slots cause
  pub says : ending ≡ plan_ending s cause

-- the lines of the slots answer, or such an ending
abbrev pub AnswersPlan : List ClassFile → Settings → List Slot → (bounds_text : List ℕ) → Answer → Type 0
AnswersPlan cs s slots bounds_text (Text text) = IsPlan cs s bounds_text slots text.items
AnswersPlan cs s slots bounds_text (Ends ending) = EndsNotPlanned cs s slots bounds_text ending

-- ---- the operands

-- the class files, which stand behind the table and the bounds
abbrev pub planned_files : (operands : List (List ℕ)) → List (List ℕ)
planned_files operands = drop 2 operands

-- the class files are linked with the executive of the table, and this answers of that
pub record PlansLinked (s : Settings) (rounds : ℕ) (operands : List (List ℕ)) (answer : Answer) : Type 0 where
  pub slots : List Slot
  pub linked : Parts
  pub readied : IsReadied (text_of_word operands 0) rounds (planned_files operands) slots linked
  pub answers : AnswersPlan linked.classes s slots (text_of_word operands 1) answer

-- or they aren't, and the ending says why
abbrev pub PlansUnready : (rounds : ℕ) → (operands : List (List ℕ)) → Answer → Type 0
PlansUnready rounds operands (Text text) = ⊥
PlansUnready rounds operands (Ends ending) = EndsUnready (text_of_word operands 0) rounds (planned_files operands) ending

abbrev pub Plans : Settings → (rounds : ℕ) → (operands : List (List ℕ)) → Answer → Type 0
Plans s rounds operands answer = PlansUnready rounds operands answer ⊎ PlansLinked s rounds operands answer

-- ---- the files

-- the files of the words from the table on were read, and what answers was put
pub record PlansRead (s : Settings) (rounds table : ℕ) (old new : World) (ending : Ending) : Type 0 where
  pub operands : List (List ℕ)
  pub only : OnlyWords (files_of old) (files_of new) table old.words
  pub are : AreFiles old.files table old.words operands
  pub answer : Answer
  pub plans : Plans s rounds operands answer
  pub puts : PutsAnswer answer old.out new.out old.out_faults new.out_faults ending
  pub watch : new.watch ≡ old.watch
  pub input : IsUntaken old new

-- How a plan ends whose table is the file of a word, each ending with its cause.
abbrev pub PlansFiles : Settings → (rounds table : ℕ) → World → World → Ending → Type 0
PlansFiles s rounds table old new ending =
    (OperandsFault table old.words (files_of old) (files_of new) ending × IsQuiet old new) ⊎ PlansRead s rounds table old new ending
