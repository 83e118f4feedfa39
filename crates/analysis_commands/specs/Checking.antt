-- What `check` finds of a program, of the bounds of its loops, and of a certificate.
use Rattle.std.specs.Prelude.{◌≡◌, ℕ, List, [], ◌∷◌, Option, Some, None}
use Rattle.std.specs.Option.{option_map_or}
use Rattle.class_pool.specs.declared.class.ClassFile.{ClassFile}
use Rattle.program_tables.specs.Resolved.{resolved}
use Rattle.name_laws.specs.Written.{written_name}
use Rattle.command_line.specs.declared.command.Settings.{Settings}
use Rattle.ascii_text.specs.Line.{lines_of as text_lines}
use Rattle.bound_texts.specs.Loops.Bounds.{LoopBound}
use Rattle.bound_texts.specs.Loops.Grammar.{IsRead}
use Rattle.certificates.specs.Certificate.{Certificate}
use Rattle.certificates.specs.Texts.{AreLinesOf, IsFirstRefusedLine}
use Rattle.bound_rules.specs.declared.faults.CheckFault.{CheckFault}
use Rattle.bound_rules.specs.declared.faults.CheckFault.TheVariants as faults
use Rattle.bound_rules.specs.Conditions.{MeetsConditions}
use Rattle.bound_rules.specs.Refused.{IsCertRefused}
use Rattle.answer_lines.specs.declared.analysis.Held.{Held}
use Rattle.analysis_commands.specs.declared.check.CheckRefusal.{CheckRefusal}
use Rattle.analysis_commands.specs.declared.check.CheckRefusal.TheVariants.{NoAnalysis, BadCert, Fails, NoMemory}
use Rattle.analysis_commands.specs.Analysis.{EachFits, timing_of, bounds_of, named_or_number, number_text, IsAnalysisFault}
use Rattle.answer_lines.specs.BoundsFaults.{IsBoundsFault}

-- ---- the texts

-- each code fits the method cache, and these are the bounds and the certificate of the two texts
pub record ReadsBoth (cs : List ClassFile) (s : Settings) (bounds_text cert_text : List ℕ) (bounds : List LoopBound) (c : Certificate) : Type 0 where
  pub codes_fit : EachFits s cs
  pub bounds_read : IsRead bounds_text bounds
  pub cert_read : AreLinesOf (text_lines cert_text) c

-- ---- the conditions

-- the certificate of the text meets the conditions; this is what is said of it: its method, which has code, the name, and the bound
pub record IsHeld (cs : List ClassFile) (s : Settings) (bounds_text cert_text : List ℕ) (h : Held) : Type 0 where
  pub bounds : List LoopBound
  pub certificate : Certificate
  pub reads : ReadsBoth cs s bounds_text cert_text bounds certificate
  pub meets : MeetsConditions (resolved cs) (timing_of s) (bounds_of cs bounds) certificate
  pub root : h.root ≡ certificate.root
  pub name : h.name.items ≡ written_name cs certificate.root
  pub bound : h.bound ≡ certificate.bound

-- the method that a fault speaks of
abbrev pub method_of : CheckFault → Option ℕ
method_of (faults.Missing m) = Some m
method_of (faults.Member m u) = Some m
method_of (faults.Edge m u v) = Some m
method_of (faults.Exit m u) = Some m
method_of (faults.Region m) = Some m
method_of faults.NoMemory = None

-- and its name, or its number where the program lacks its code
abbrev pub fault_name : List ClassFile → CheckFault → List ℕ
fault_name cs fault = option_map_or (named_or_number cs) (method_of fault) []

-- the certificate of the text is refused by this, the first condition that fails
pub record FailsBy (cs : List ClassFile) (s : Settings) (bounds_text cert_text : List ℕ) (fault : CheckFault) : Type 0 where
  pub bounds : List LoopBound
  pub certificate : Certificate
  pub reads : ReadsBoth cs s bounds_text cert_text bounds certificate
  pub refused : IsCertRefused (resolved cs) (timing_of s) (bounds_of cs bounds) certificate fault

-- the bounds are read, and this is the first line with which no certificate begins
pub record IsBadCert (bounds_text cert_text : List ℕ) (line : ℕ) : Type 0 where
  pub bounds : List LoopBound
  pub bounds_read : IsRead bounds_text bounds
  pub first : IsFirstRefusedLine (text_lines cert_text) line

-- why nothing is held, in this order: the methods, the bounds, the certificate, the conditions
abbrev pub IsCheckRefusal : List ClassFile → Settings → (bounds_text cert_text : List ℕ) → CheckRefusal → Type 0
IsCheckRefusal cs s bounds_text cert_text (NoAnalysis fault) = IsAnalysisFault cs s bounds_text fault
IsCheckRefusal cs s bounds_text cert_text (BadCert line) = EachFits s cs × IsBadCert bounds_text cert_text line
IsCheckRefusal cs s bounds_text cert_text (Fails fault name) = FailsBy cs s bounds_text cert_text fault × (name.items ≡ fault_name cs fault)
IsCheckRefusal cs s bounds_text cert_text NoMemory = Unit {0}

-- ---- a bare image, which has no classes

-- the method of the first section, or else the root
abbrev pub first_method : Certificate → ℕ
first_method c = elim c.sections [ [] ↦ c.root | (s ∷ ss) ↦ s.method ]

-- the bounds and the certificate are read, and the method of this number is missing
pub record IsMissing (bounds_text cert_text : List ℕ) (m : ℕ) : Type 0 where
  pub bounds : List LoopBound
  pub certificate : Certificate
  pub bounds_read : IsRead bounds_text bounds
  pub cert_read : AreLinesOf (text_lines cert_text) certificate
  pub method : m ≡ first_method certificate

-- why nothing is held of a bare image: what refuses the bounds, or else the certificate, or else the first method that is missing
abbrev pub IsBareRefusal : (bounds_text cert_text : List ℕ) → CheckRefusal → Type 0
IsBareRefusal bounds_text cert_text (NoAnalysis fault) = IsBoundsFault bounds_text fault
IsBareRefusal bounds_text cert_text (BadCert line) = IsBadCert bounds_text cert_text line
IsBareRefusal bounds_text cert_text (Fails (faults.Missing m) name) = IsMissing bounds_text cert_text m × (name.items ≡ number_text m)
IsBareRefusal bounds_text cert_text (Fails fault name) = ⊥
IsBareRefusal bounds_text cert_text NoMemory = Unit {0}
