-- What `check` promises: it is complete, and the bound of a certificate that holds is kept; its line tells method and bound.
use Rattle.std.specs.Prelude.{◌≡◌, ℕ, List, [], ◌∷◌, Ok, ◌⊎◌, ◌+◌, Option, IsSome}
use Rattle.std.specs.List.{concat}
use Rattle.image_file.specs.Linked as file
use Rattle.command_line.specs.declared.command.Command.TheVariants.{Check}
use Rattle.name_laws.specs.Written.{written_name}
use Rattle.ascii_text.specs.Line.{lines_of as text_lines}
use Rattle.certificates.specs.Certificate.{Certificate}
use Rattle.certificates.specs.Texts.{AreLinesOf}
use Rattle.bound_rules.specs.declared.faults.CheckFault.{CheckFault}
use Rattle.bound_rules.specs.Conditions.{MeetsConditions}
use Rattle.bound_rules.specs.Refused.{IsCertRefused}
use Rattle.answer_lines.specs.AnalysisLines.{held_parts, fault_parts}
use Rattle.analysis_commands.specs.Checking.{fault_name}
use Rattle.endings.specs.declared.outcome.Refusal.TheVariants.{Check as NotChecked}
use Rattle.endings.specs.declared.outcome.Outcome.TheVariants.{Holds}
use Rattle.certificates.specs.CertLines.{IsBoundValue}
use Rattle.jop_cli.specs.promises.Words.{Settings, command_of, Parts, IsLinked, image_of, LoopBound, IsRead, CodesFit, Call, OperandsAreTold, resolved}
use Rattle.jop_cli.specs.promises.Words.{timing_of, bounds_of, NothingFailed, LacksMemory, IsSetting, BoundsActivations, IsResolved, linked_setting}
use Rattle.jop_cli.specs.promises.Words.{text_of_word, Grew, AreFiles, Refused, ClassFile, body_of}
use Rattle.jop_cli.specs.promises.Answers.{AnswersLine}

-- ---- `check`

-- The words say `check` of three files: the image of what is linked, each code of which fits the method cache, a text of bounds and one of a certificate.
pub record ChecksTexts (c : Call) (settings : Settings) (image : ℕ) (l : Parts) (lines : List LoopBound) (certificate : Certificate) : Type 0 where
  pub bounds : ℕ
  pub last : ℕ
  pub command : command_of c.words ≡ Ok (Check settings image bounds last)
  pub bytes : List ℕ
  pub bounds_text : List ℕ
  pub cert_text : List ℕ
  pub told : OperandsAreTold c image (bytes ∷ bounds_text ∷ cert_text ∷ [])
  pub is_linked : IsLinked l
  pub is_file : file.IsLinkedFile bytes (image_of l)
  pub codes : CodesFit settings l
  pub read : IsRead bounds_text lines
  pub text : AreLinesOf (text_lines cert_text) certificate

-- A certificate that meets the conditions holds, and the line says its method and its bound; or there is no memory.
abbrev pub CheckingIsComplete : Type 0
CheckingIsComplete =
    (c : Call) (settings : Settings) (image : ℕ) (l : Parts) (lines : List LoopBound) (certificate : Certificate)
    → ChecksTexts c settings image l lines certificate → NothingFailed c
    → MeetsConditions (resolved l.classes) (timing_of settings) (bounds_of l.classes lines) certificate
    → AnswersLine c Holds (held_parts (written_name l.classes certificate.root) certificate.bound) ⊎ LacksMemory c

-- What a call shows that answers that a certificate holds: these are the bytes of its files, of the image of what is linked, of bounds and of the
-- certificate; it meets the conditions, and the line says its method and its bound. There is a machine of each size for the program. Each ended
-- activation of the method takes at most so many cycles, where its loops keep the bounds: in every run of the program, on each machine with these
-- waits and a method cache of these sizes, whatever the cache holds and whatever is read. Where the bound is never, no such activation ends.
pub record ShowsHeld (c : Call) (settings : Settings) (image : ℕ) : Type 0 where
  pub files : List (List ℕ)
  pub are : AreFiles c.old.files image (image + 3) files
  pub linked : Parts
  pub is_linked : IsLinked linked
  pub is_file : file.IsLinkedFile (text_of_word files 0) (image_of linked)
  pub are_resolved : IsResolved linked.classes
  pub setting : (chip memory : ℕ) → IsSetting (linked_setting linked.classes chip memory)
  pub codes : CodesFit settings linked
  pub lines : List LoopBound
  pub read : IsRead (text_of_word files 1) lines
  pub certificate : Certificate
  pub text : AreLinesOf (text_lines (text_of_word files 2)) certificate
  pub meets : MeetsConditions (resolved linked.classes) (timing_of settings) (bounds_of linked.classes lines) certificate
  pub says : Grew c.err_old c.err_new (concat (held_parts (written_name linked.classes certificate.root) certificate.bound))
  pub kept : BoundsActivations (resolved linked.classes) (timing_of settings) (bounds_of linked.classes lines) certificate.root certificate.bound

abbrev pub CheckedBoundsAreKept : Type 0
CheckedBoundsAreKept =
    (c : Call) (settings : Settings) (image bounds last : ℕ) → command_of c.words ≡ Ok (Check settings image bounds last) → c.outcome ≡ Holds
    → ShowsHeld c settings image

-- One that doesn't is refused by the first condition that fails; or there is no memory.
abbrev pub FaultsAreAnswered : Type 0
FaultsAreAnswered =
    (c : Call) (settings : Settings) (image : ℕ) (l : Parts) (lines : List LoopBound) (certificate : Certificate) (fault : CheckFault)
    → ChecksTexts c settings image l lines certificate → NothingFailed c
    → IsCertRefused (resolved l.classes) (timing_of settings) (bounds_of l.classes lines) certificate fault
    → AnswersLine c (Refused (NotChecked fault)) (fault_parts fault (fault_name l.classes fault)) ⊎ LacksMemory c

-- The line of a certificate that holds tells its method and its bound.
abbrev pub HeldLinesAreOne : Type 0
HeldLinesAreOne =
    (cs : List ClassFile) → IsResolved cs → (m n : ℕ) → IsSome (body_of (resolved cs) m) → IsSome (body_of (resolved cs) n) → (a b : Option ℕ)
    → IsBoundValue a → IsBoundValue b → concat (held_parts (written_name cs m) a) ≡ concat (held_parts (written_name cs n) b) → (m ≡ n) × (a ≡ b)
