-- What `bound --method` promises: it is complete, and the bound of a certificate that is written is kept; and names.
use Rattle.std.specs.Prelude.{◌≡◌, ℕ, List, [], ◌∷◌, Ok, ◌⊎◌, Some, ◌+◌, IsSome}
use Rattle.image_file.specs.Linked as file
use Rattle.command_line.specs.declared.command.Command.TheVariants.{Bound}
use Rattle.name_laws.specs.Written.{written_name}
use Rattle.certificates.specs.Certificate.{Certificate, IsInGrammar}
use Rattle.certificates.specs.Texts.{text_of}
use Rattle.bound_rules.specs.declared.faults.BoundRefusal.{BoundRefusal}
use Rattle.bound_rules.specs.declared.faults.BoundRefusal.TheVariants.{NoMemory as Lacking}
use Rattle.bound_rules.specs.Bounding.{IsCause}
use Rattle.answer_lines.specs.declared.bound.BoundCause.{BoundCause}
use Rattle.answer_lines.specs.AnalysisLines.{cause_parts}
use Rattle.analysis_commands.specs.Bounding.{MethodHasName, IsBoundBy, cause_of, subject_of}
use Rattle.endings.specs.declared.outcome.Refusal.TheVariants.{Bound as Forbidden}
use Rattle.jop_cli.specs.promises.Words.{Settings, command_of, Parts, IsLinked, image_of, LoopBound, IsRead, text_of_word, CodesFit, Call, OperandsAreTold}
use Rattle.jop_cli.specs.promises.Words.{resolved, timing_of, bounds_of, Written, PutsOut, NothingFailed, LacksMemory, named_or_number, Refused, AreSettings}
use Rattle.jop_cli.specs.promises.Words.{IsSetting, BoundsActivations, IsResolved, linked_setting, Grew, AreFiles, ClassFile, body_of}
use Rattle.jop_cli.specs.promises.Answers.{AnswersLine}
use Rattle.jop_cli.specs.promises.Check.{CheckedBoundsAreKept}

-- ---- `bound`

-- The words say `bound` of a method of this name and of two files: the image of what is linked, each code of which fits the method cache, and a text of bounds.
pub record BoundsTexts (c : Call) (settings : Settings) (image : ℕ) (l : Parts) (lines : List LoopBound) (name : List ℕ) : Type 0 where
  pub method : ℕ
  pub bounds : ℕ
  pub command : command_of c.words ≡ Ok (Bound settings method image bounds)
  pub named : text_of_word c.words method ≡ name
  pub bytes : List ℕ
  pub bounds_text : List ℕ
  pub told : OperandsAreTold c image (bytes ∷ bounds_text ∷ [])
  pub is_linked : IsLinked l
  pub is_file : file.IsLinkedFile bytes (image_of l)
  pub codes : CodesFit settings l
  pub read : IsRead bounds_text lines

-- The text of a certificate of a method of this name was put, and no line.
pub record IsBounded (c : Call) (settings : Settings) (l : Parts) (lines : List LoopBound) (name : List ℕ) : Type 0 where
  pub outcome : c.outcome ≡ Written
  pub certificate : Certificate
  pub is : IsBoundBy (resolved l.classes) (timing_of settings) (bounds_of l.classes lines) (MethodHasName l.classes name) certificate
  pub grammar : IsInGrammar certificate
  pub puts : PutsOut c (text_of certificate) []

-- this forbids a bound of the method
abbrev pub Forbids : Settings → Parts → List LoopBound → (name : List ℕ) → BoundRefusal → Type 0
Forbids settings l lines name Lacking = ⊥
Forbids settings l lines name refusal = IsCause (resolved l.classes) (timing_of settings) (bounds_of l.classes lines) (MethodHasName l.classes name) refusal

-- Where nothing forbids it, a certificate of the method is put; or there is no memory.
abbrev pub BoundingIsComplete : Type 0
BoundingIsComplete =
    (c : Call) (settings : Settings) (image : ℕ) (l : Parts) (lines : List LoopBound) (name : List ℕ) → BoundsTexts c settings image l lines name
    → NothingFailed c
    → ((refusal : BoundRefusal) → ¬ Forbids settings l lines name refusal)
    → IsBounded c settings l lines name ⊎ LacksMemory c

-- this forbids a bound, and the line says the cause
pub record AnswersForbidden (c : Call) (settings : Settings) (l : Parts) (lines : List LoopBound) (name : List ℕ) (cause : BoundCause) : Type 0 where
  pub refusal : BoundRefusal
  pub forbids : Forbids settings l lines name refusal
  pub cause_is : cause_of refusal ≡ Some cause
  pub answers : AnswersLine c (Refused (Forbidden cause)) (cause_parts cause (subject_of (named_or_number l.classes) refusal))

-- Where none is given, this cause forbids it.
abbrev pub BoundRefusalsAreCaused : Type 0
BoundRefusalsAreCaused =
    (c : Call) (settings : Settings) (image : ℕ) (l : Parts) (lines : List LoopBound) (name : List ℕ) (cause : BoundCause)
    → BoundsTexts c settings image l lines name → NothingFailed c
    → c.outcome ≡ Refused (Forbidden cause) → AnswersForbidden c settings l lines name cause

-- A cause that stands is the one that is answered, of a recursion with one of its rings; or there is no memory.
abbrev pub CausesAreAnswered : Type 0
CausesAreAnswered =
    (c : Call) (settings : Settings) (image : ℕ) (l : Parts) (lines : List LoopBound) (name : List ℕ) (refusal : BoundRefusal) (cause : BoundCause)
    → AreSettings settings → BoundsTexts c settings image l lines name → NothingFailed c → Forbids settings l lines name refusal
    → cause_of refusal ≡ Some cause → AnswersForbidden c settings l lines name cause ⊎ LacksMemory c

-- What a call shows in the same way that answers that a certificate of a method is written: its text was put, and its bound is kept.
pub record ShowsWritten (c : Call) (settings : Settings) (method image : ℕ) : Type 0 where
  pub files : List (List ℕ)
  pub are : AreFiles c.old.files image (image + 2) files
  pub linked : Parts
  pub is_linked : IsLinked linked
  pub is_file : file.IsLinkedFile (text_of_word files 0) (image_of linked)
  pub are_resolved : IsResolved linked.classes
  pub setting : (chip memory : ℕ) → IsSetting (linked_setting linked.classes chip memory)
  pub codes : CodesFit settings linked
  pub lines : List LoopBound
  pub read : IsRead (text_of_word files 1) lines
  pub certificate : Certificate
  pub is : IsBoundBy (resolved linked.classes) (timing_of settings) (bounds_of linked.classes lines)
      (MethodHasName linked.classes (text_of_word c.words method)) certificate
  pub put : Grew c.old.out c.new.out (text_of certificate)
  pub kept : BoundsActivations (resolved linked.classes) (timing_of settings) (bounds_of linked.classes lines) certificate.root certificate.bound

abbrev pub WrittenBoundsAreKept : Type 0
WrittenBoundsAreKept =
    (c : Call) (settings : Settings) (method image bounds : ℕ) → command_of c.words ≡ Ok (Bound settings method image bounds) → c.outcome ≡ Written
    → ShowsWritten c settings method image

-- So it is of `check` and of `bound`.
abbrev pub BoundsAreKept : Type 0
BoundsAreKept = CheckedBoundsAreKept × WrittenBoundsAreKept

-- ---- names

-- In resolved classes a name is that of one method with code: so what a line says of a method of this name it says of one.
abbrev pub NamesTellMethods : Type 0
NamesTellMethods =
    (cs : List ClassFile) → IsResolved cs → (m n : ℕ) → IsSome (body_of (resolved cs) m) → IsSome (body_of (resolved cs) n)
    → written_name cs m ≡ written_name cs n → m ≡ n
