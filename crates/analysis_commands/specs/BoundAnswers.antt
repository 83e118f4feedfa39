-- What is answered of a method that is asked for by its name or its number, by the table of a program.
use Rattle.std.specs.Prelude.{◌≡◌, ◌≢◌, ℕ, List, All, Option, Some}
use Rattle.ascii_text.specs.Line.{lines_of as text_lines}
use Rattle.bytecode_model.specs.Program.{Program}
use Rattle.method_flow.specs.Flow.{IsFlowOf}
use Rattle.node_costs.specs.Costs.{bounds_of}
use Rattle.certificates.specs.declared.lines.line.SectionKind.TheVariants.{Alone}
use Rattle.certificates.specs.Certificate.{Certificate}
use Rattle.certificates.specs.Texts.{AreLinesOf, text_of}
use Rattle.bound_rules.specs.declared.faults.BoundRefusal.{BoundRefusal}
use Rattle.bound_rules.specs.Bounding.{IsAsked, IsCause, KeepSize}
use Rattle.bound_rules.specs.Conditions.{MeetsConditions}
use Rattle.bound_rules.specs.Numbers.{IsPrinted}
use Rattle.bound_causes.specs.declared.causes.Asked.{Asked}
use Rattle.bound_causes.specs.Naming.{IsNamedBy}
use Rattle.bound_causes.specs.Ready.{IsReady, AreInTable}
use Rattle.bound_finder.specs.Certified.{AreEmptyIfEndless}
use Rattle.bound_finder.specs.Ready.{IsSizeCause}
use Rattle.answer_lines.specs.declared.bound.BoundCause.{BoundCause}
use Rattle.analysis_commands.specs.declared.analysis.Analysis.{Analysis}
use Rattle.analysis_commands.specs.declared.bound.NotBounded.{NotBounded}
use Rattle.analysis_commands.specs.declared.bound.NotBounded.TheVariants.{NoAnalysis, Forbidden, NoMemory}
use Rattle.analysis_commands.specs.Answers.{table_name}
use Rattle.analysis_commands.specs.Bounding.{IsBoundBy, cause_of, subject_of}

-- it is the table of a program
abbrev pub IsOfProgram : Analysis → Type 0
IsOfProgram a = (P : Program) × IsFlowOf P a.flow

-- the method is asked for by `named` in each program of the table, and nothing but its size forbids a bound
pub record IsAskedOf (a : Analysis) (named : ℕ → Type 0) (found : Asked) : Type 0 where
  pub asked : (P : Program) → IsFlowOf P a.flow → IsAsked P named found.root
  pub ready : (P : Program) → IsFlowOf P a.flow → IsReady P (bounds_of a.flow a.bounds) found
  pub known : AreInTable a.flow found

-- the certificate is of the method that is asked for, in each program of the table
abbrev pub IsCertificateOf : Analysis → (named : ℕ → Type 0) → Certificate → Type 0
IsCertificateOf a named c = (P : Program) → IsFlowOf P a.flow → IsBoundBy P a.timing (bounds_of a.flow a.bounds) named c

-- this forbids a bound in each
abbrev pub IsCauseOf : Analysis → (named : ℕ → Type 0) → BoundRefusal → Type 0
IsCauseOf a named refusal = (P : Program) → IsFlowOf P a.flow → IsCause P a.timing (bounds_of a.flow a.bounds) named refusal

-- ---- a method for which all is ready

-- nothing but the method's size forbids a bound of it
pub record IsReadyOf (a : Analysis) (found : Asked) : Type 0 where
  pub ready : (P : Program) → IsFlowOf P a.flow → IsReady P (bounds_of a.flow a.bounds) found
  pub known : AreInTable a.flow found

-- The certificate is of the method of this number, whose size forbids none, in each program of the table. It has no sections of the kind alone, and
-- those of methods that can't end list no node.
pub record IsCertificateFor (a : Analysis) (root : ℕ) (c : Certificate) : Type 0 where
  pub version : c.version ≡ 2
  pub root_is : c.root ≡ root
  pub meets : (P : Program) → IsFlowOf P a.flow → MeetsConditions P a.timing (bounds_of a.flow a.bounds) c
  pub kinds : All (λ s. s.kind ≢ Alone) c.sections
  pub empty : (P : Program) → IsFlowOf P a.flow → AreEmptyIfEndless P c.sections
  pub printed : (P : Program) → IsFlowOf P a.flow → IsPrinted P a.timing (bounds_of a.flow a.bounds) root c.bound
  pub kept : (P : Program) → IsFlowOf P a.flow → KeepSize P a.timing (bounds_of a.flow a.bounds) root

-- its size forbids one
abbrev pub IsSizeCauseOf : Analysis → (root : ℕ) → BoundRefusal → Type 0
IsSizeCauseOf a root refusal = (P : Program) → IsFlowOf P a.flow → IsSizeCause P a.timing (bounds_of a.flow a.bounds) root refusal

-- ---- a method of a name

-- the text is that of such a certificate
pub record IsBoundText (a : Analysis) (name text : List ℕ) : Type 0 where
  pub certificate : Certificate
  pub is : IsCertificateOf a (IsNamedBy a.flow name) certificate
  pub reads : AreLinesOf (text_lines text) certificate
  pub text_is : text ≡ text_of certificate

-- the number is the bound of such a certificate
pub record IsBoundNumberOf (a : Analysis) (name : List ℕ) (bound : Option ℕ) : Type 0 where
  pub certificate : Certificate
  pub is : IsCertificateOf a (IsNamedBy a.flow name) certificate
  pub bound_is : bound ≡ certificate.bound

-- such a cause, with what its line names
pub record IsForbiddenBy (a : Analysis) (name : List ℕ) (cause : BoundCause) (subject : List ℕ) : Type 0 where
  pub refusal : BoundRefusal
  pub is : IsCauseOf a (IsNamedBy a.flow name) refusal
  pub cause_is : cause_of refusal ≡ Some cause
  pub subject_is : subject ≡ subject_of (table_name a.flow) refusal

abbrev pub IsNotBoundedBy : Analysis → (name : List ℕ) → NotBounded → Type 0
IsNotBoundedBy a name (NoAnalysis fault) = ⊥
IsNotBoundedBy a name (Forbidden cause subject) = IsForbiddenBy a name cause subject.items
IsNotBoundedBy a name NoMemory = Unit {0}
