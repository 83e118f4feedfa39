-- What `bound` does: a certificate of a method's bound is put, by an image and the bounds of its loops, which is the operand behind it; or a line for each
-- shape of the method cache.
use Rattle.std.specs.Prelude.{◌≡◌, ℕ, ◌≤◌, ◌⊎◌, List}
use Rattle.class_pool.specs.declared.class.ClassFile.{ClassFile}
use Rattle.image_file.specs.Bare.{BareContent}
use Rattle.program_tables.specs.Resolved.{resolved}
use Rattle.activations.specs.Warrant.{BoundsActivations}
use Rattle.command_line.specs.declared.command.Settings.{Settings}
use Rattle.analysis_commands.specs.declared.bound.NotBounded.{NotBounded as Cause}
use Rattle.analysis_commands.specs.declared.bound.NotBounded.TheVariants as causes
use Rattle.analysis_commands.specs.Analysis.{timing_of, bounds_of}
use Rattle.analysis_commands.specs.Bounding.{IsCertText, IsNotBounded, IsBareNotBounded}
use Rattle.ask_commands.specs.Shapes.{AreShapeLines, IsShapeRefusal}
use Rattle.answer_lines.specs.declared.unanswered.Cause.TheVariants.{Bound}
use Rattle.endings.specs.declared.outcome.Ending.{Ending}
use Rattle.endings.specs.declared.outcome.Ending.TheVariants.{NotAnswered, NoMemory}
use Rattle.endings.specs.declared.outcome.Answer.{Answer}
use Rattle.endings.specs.declared.outcome.Answer.TheVariants.{Text, Ends}
use Rattle.endings.specs.Fitting.{blocks_of_code}
use Rattle.endings.specs.AnalysisFaults.{fault_ending}
use Rattle.endings.specs.Fitting.{EndsTooLong}

-- ---- a program

-- the ending that says why no bound is given
abbrev pub cause_ending : Settings → Cause → Ending
cause_ending s (causes.NoAnalysis fault) = fault_ending s fault
cause_ending s (causes.Forbidden cause subject) = NotAnswered (Bound cause) subject
cause_ending s causes.NoMemory = NoMemory

-- What the text says holds of the program and of the machine: it is that of a certificate that meets its conditions, so each ended activation of its
-- method, which is the one that is asked for, takes at most as many cycles as it says, whatever the method cache held, where it keeps the bounds.
pub record Bounds (cs : List ClassFile) (s : Settings) (bounds_text name text : List ℕ) : Type 0 where
  pub is : IsCertText cs s bounds_text name text
  pub holds : BoundsActivations (resolved cs) (timing_of s) (bounds_of cs is.bounds) is.certificate.root is.certificate.bound

-- this refuses the method or the bounds, or forbids a bound, and the ending says it
pub record EndsNotBounded (cs : List ClassFile) (s : Settings) (bounds_text name : List ℕ) (ending : Ending) : Type 0 where
  pub cause : Cause
  pub is : IsNotBounded cs s bounds_text name cause
  pub says : ending ≡ cause_ending s cause

-- such a text answers, or such an ending
abbrev pub AnswersBound : List ClassFile → Settings → (bounds_text name : List ℕ) → Answer → Type 0
AnswersBound cs s bounds_text name (Text text) = Bounds cs s bounds_text name text.items
AnswersBound cs s bounds_text name (Ends ending) = EndsNotBounded cs s bounds_text name ending

-- ---- a bare image

-- the code of a bare image fits, and this refuses the bounds, or else no method has the name
pub record EndsUnnamed (s : Settings) (image : BareContent) (bounds_text : List ℕ) (ending : Ending) : Type 0 where
  pub fits : blocks_of_code s image ≤ s.blocks
  pub cause : Cause
  pub is : IsBareNotBounded bounds_text cause
  pub says : ending ≡ cause_ending s cause

-- how the bounding of a method of a bare image ends
abbrev pub BoundsBare : Settings → BareContent → (bounds_text : List ℕ) → Ending → Type 0
BoundsBare s image bounds_text ending = EndsTooLong s image ending ⊎ EndsUnnamed s image bounds_text ending

-- ---- in each shape of the method cache

-- this refuses the bounds, or forbids a bound whatever the shape, and the ending says it
pub record EndsShapeless (cs : List ClassFile) (s : Settings) (bounds_text name : List ℕ) (ending : Ending) : Type 0 where
  pub cause : Cause
  pub is : IsShapeRefusal cs s bounds_text name cause
  pub says : ending ≡ cause_ending s cause

-- the lines answer, or such an ending
abbrev pub AnswersShapes : List ClassFile → Settings → (bounds_text name : List ℕ) → Answer → Type 0
AnswersShapes cs s bounds_text name (Text text) = AreShapeLines cs s bounds_text name text.items
AnswersShapes cs s bounds_text name (Ends ending) = EndsShapeless cs s bounds_text name ending

-- of a bare image: this refuses the bounds, or else no method has the name
pub record EndsNoMethod (s : Settings) (bounds_text : List ℕ) (ending : Ending) : Type 0 where
  pub cause : Cause
  pub is : IsBareNotBounded bounds_text cause
  pub says : ending ≡ cause_ending s cause
