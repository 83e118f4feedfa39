-- What `bound` finds of a program, of the bounds of its loops, and of a method that is asked for by its name.
use Rattle.std.specs.Prelude.{◌≡◌, ℕ, List, [], ◌++◌, Option, Some, None, map}
use Rattle.class_pool.specs.declared.class.ClassFile.{ClassFile}
use Rattle.program_tables.specs.Resolved.{resolved}
use Rattle.name_laws.specs.Written.{written_name}
use Rattle.bytecode_model.specs.Program.{Program}
use Rattle.command_line.specs.declared.command.Settings.{Settings}
use Rattle.ascii_text.specs.Line.{lines_of as text_lines}
use Rattle.bound_texts.specs.Loops.Bounds.{LoopBound}
use Rattle.bound_texts.specs.Loops.Grammar.{IsRead}
use Rattle.method_flow.specs.Keeping.{BoundOf}
use Rattle.method_flow.specs.declared.timing.Timing.{Timing}
use Rattle.certificates.specs.Certificate.{Certificate}
use Rattle.certificates.specs.Texts.{AreLinesOf, text_of}
use Rattle.bound_rules.specs.Conditions.{MeetsConditions}
use Rattle.bound_rules.specs.Numbers.{IsPrinted}
use Rattle.bound_rules.specs.declared.faults.BoundRefusal.{BoundRefusal}
use Rattle.bound_rules.specs.declared.faults.BoundRefusal.TheVariants.{NoMethod, Recursion, Irreducible, MissingBound, TooLarge, NoMemory}
use Rattle.bound_rules.specs.Bounding.{IsAsked, HasNoCause, IsCause}
use Rattle.answer_lines.specs.declared.bound.BoundCause.{BoundCause}
use Rattle.answer_lines.specs.declared.bound.BoundCause.TheVariants as causes
use Rattle.answer_lines.specs.AnalysisLines.{names_text, nodes_text}
use Rattle.analysis_commands.specs.declared.bound.NotBounded.{NotBounded}
use Rattle.analysis_commands.specs.declared.bound.NotBounded.TheVariants as refusals
use Rattle.analysis_commands.specs.Analysis.{EachFits, timing_of, bounds_of, named_or_number, IsAnalysisFault}
use Rattle.answer_lines.specs.BoundsFaults.{IsBoundsFault}

-- the method has the name
abbrev pub MethodHasName : List ClassFile → (name : List ℕ) → (method : ℕ) → Type 0
MethodHasName cs name m = written_name cs m ≡ name

-- ---- the certificate

-- The certificate, of version 2, is of a method that is asked for, of which there is no cause to refuse a bound. It meets the conditions, and its
-- last line is the number that is printed of the method.
pub record IsBoundBy (P : Program) (t : Timing) (bound_of : BoundOf) (named : ℕ → Type 0) (c : Certificate) : Type 0 where
  pub asked : IsAsked P named c.root
  pub no_cause : HasNoCause P t bound_of c.root
  pub version : c.version ≡ 2
  pub meets : MeetsConditions P t bound_of c
  pub printed : IsPrinted P t bound_of c.root c.bound

-- each code fits the method cache, these are the bounds of a text, and the other text is that of such a certificate of a method of this name
pub record IsCertText (cs : List ClassFile) (s : Settings) (bounds_text name text : List ℕ) : Type 0 where
  pub codes_fit : EachFits s cs
  pub bounds : List LoopBound
  pub bounds_read : IsRead bounds_text bounds
  pub certificate : Certificate
  pub is : IsBoundBy (resolved cs) (timing_of s) (bounds_of cs bounds) (MethodHasName cs name) certificate
  pub reads : AreLinesOf (text_lines text) certificate
  pub text_is : text ≡ text_of certificate

-- the same of the bound of such a certificate
pub record IsBoundNumber (cs : List ClassFile) (s : Settings) (bounds_text name : List ℕ) (bound : Option ℕ) : Type 0 where
  pub codes_fit : EachFits s cs
  pub bounds : List LoopBound
  pub bounds_read : IsRead bounds_text bounds
  pub certificate : Certificate
  pub is : IsBoundBy (resolved cs) (timing_of s) (bounds_of cs bounds) (MethodHasName cs name) certificate
  pub bound_is : bound ≡ certificate.bound

-- ---- the refusals

-- the cause of a refusal in numbers; want of memory is none
abbrev pub cause_of : BoundRefusal → Option BoundCause
cause_of NoMethod = Some causes.NoMethod
cause_of (Recursion cycle) = Some causes.Recursion
cause_of (Irreducible m nodes) = Some (causes.Irreducible m)
cause_of (MissingBound m p) = Some (causes.MissingBound m p)
cause_of (TooLarge m) = Some (causes.TooLarge m)
cause_of NoMemory = None

-- what its line names, where these are the names of the methods
abbrev pub subject_of : (name : ℕ → List ℕ) → BoundRefusal → List ℕ
subject_of name NoMethod = []
subject_of name (Recursion cycle) = names_text (map name cycle.items)
subject_of name (Irreducible m nodes) = name m ++ nodes_text nodes.items
subject_of name (MissingBound m p) = name m
subject_of name (TooLarge m) = name m
subject_of name NoMemory = []

-- the codes fit, the bounds are read, and this cause forbids a bound, with what its line names
pub record IsForbidden (cs : List ClassFile) (s : Settings) (bounds_text name : List ℕ) (cause : BoundCause) (subject : List ℕ) : Type 0 where
  pub codes_fit : EachFits s cs
  pub bounds : List LoopBound
  pub bounds_read : IsRead bounds_text bounds
  pub refusal : BoundRefusal
  pub is : IsCause (resolved cs) (timing_of s) (bounds_of cs bounds) (MethodHasName cs name) refusal
  pub cause_is : cause_of refusal ≡ Some cause
  pub subject_is : subject ≡ subject_of (named_or_number cs) refusal

-- why no bound is given, in this order: the methods, the bounds, the causes
abbrev pub IsNotBounded : List ClassFile → Settings → (bounds_text name : List ℕ) → NotBounded → Type 0
IsNotBounded cs s bounds_text name (refusals.NoAnalysis fault) = IsAnalysisFault cs s bounds_text fault
IsNotBounded cs s bounds_text name (refusals.Forbidden cause subject) = IsForbidden cs s bounds_text name cause subject.items
IsNotBounded cs s bounds_text name refusals.NoMemory = Unit {0}

-- why none is given of a bare image: what refuses the bounds, or else that no method has the name, since the image has no classes
abbrev pub IsBareNotBounded : (bounds_text : List ℕ) → NotBounded → Type 0
IsBareNotBounded bounds_text (refusals.NoAnalysis fault) = IsBoundsFault bounds_text fault
IsBareNotBounded bounds_text (refusals.Forbidden causes.NoMethod subject) = ((bounds : List LoopBound) × IsRead bounds_text bounds) × (subject.items ≡ [])
IsBareNotBounded bounds_text (refusals.Forbidden cause subject) = ⊥
IsBareNotBounded bounds_text refusals.NoMemory = Unit {0}
