-- What is answered of a certificate by the table of a program.
use Rattle.std.specs.Prelude.{◌≡◌, ◌⊎◌, ℕ, List, Some, None, slice_get}
use Rattle.ascii_text.specs.Line.{lines_of as text_lines}
use Rattle.method_flow.specs.Flow.{Flow}
use Rattle.node_costs.specs.Costs.{bounds_of}
use Rattle.certificates.specs.Certificate.{Certificate}
use Rattle.certificates.specs.Texts.{AreLinesOf, IsFirstRefusedLine}
use Rattle.bound_rules.specs.declared.faults.CheckFault.TheVariants as faults
use Rattle.cert_checker.specs.Answer.{Meets, Refuses}
use Rattle.analysis_commands.specs.declared.analysis.Analysis.{Analysis}
use Rattle.jopizer.specs.declared.methods.fitting.TooLong.{TooLong}
use Rattle.answer_lines.specs.declared.analysis.AnalysisFault.{AnalysisFault}
use Rattle.answer_lines.specs.declared.analysis.AnalysisFault.TheVariants.{MethodTooLong, BadBounds, TwiceBound, NoMemory as WithoutMemory}
use Rattle.answer_lines.specs.declared.analysis.Held.{Held}
use Rattle.analysis_commands.specs.declared.check.CheckRefusal.{CheckRefusal}
use Rattle.analysis_commands.specs.declared.check.CheckRefusal.TheVariants.{NoAnalysis, BadCert, Fails, NoMemory}
use Rattle.analysis_commands.specs.Analysis.{number_text}
use Rattle.analysis_commands.specs.Checking.{method_of, first_method}

-- the name of a method in the table, or what stands for it
abbrev pub table_name : Flow → (method : ℕ) → List ℕ
table_name f m = elim (slice_get f.methods m) [ None ↦ number_text m | Some k ↦ k.name ]

-- this method's code doesn't fit the method cache; or there was no memory for its name
abbrev pub IsMethodTooLong : Flow → TooLong → AnalysisFault → Type 0
IsMethodTooLong f long (MethodTooLong m name blocks) = (m ≡ long.method) × (blocks ≡ long.blocks) × (name.items ≡ table_name f m)
IsMethodTooLong f long (BadBounds line) = ⊥
IsMethodTooLong f long (TwiceBound line) = ⊥
IsMethodTooLong f long WithoutMemory = Unit {0}

-- ---- the conditions

-- the certificate meets the conditions for each program of the table, and this is what is said of it
pub record IsHeldBy (a : Analysis) (c : Certificate) (h : Held) : Type 0 where
  pub meets : Meets a.flow (bounds_of a.flow a.bounds) a.timing c
  pub root : h.root ≡ c.root
  pub name : h.name.items ≡ table_name a.flow c.root
  pub bound : h.bound ≡ c.bound

-- it is refused so, with the name of the method
abbrev pub IsRefusedBy : Analysis → Certificate → CheckRefusal → Type 0
IsRefusedBy a c (NoAnalysis fault) = ⊥
IsRefusedBy a c (BadCert line) = ⊥
IsRefusedBy a c (Fails fault name) = (m : ℕ) × (method_of fault ≡ Some m) × Refuses a.flow (bounds_of a.flow a.bounds) a.timing c fault
    × (name.items ≡ table_name a.flow m)
IsRefusedBy a c NoMemory = Unit {0}

-- ---- of a text

-- why a text is no certificate
abbrev pub IsTextFault : (text : List ℕ) → CheckRefusal → Type 0
IsTextFault text (NoAnalysis fault) = ⊥
IsTextFault text (BadCert line) = IsFirstRefusedLine (text_lines text) line
IsTextFault text (Fails fault name) = ⊥
IsTextFault text NoMemory = Unit {0}

-- the certificate of the text meets the conditions
pub record IsHeldInText (a : Analysis) (text : List ℕ) (h : Held) : Type 0 where
  pub certificate : Certificate
  pub read : AreLinesOf (text_lines text) certificate
  pub held : IsHeldBy a certificate h

-- the certificate of the text is refused so
pub record FailsInText (a : Analysis) (text : List ℕ) (refusal : CheckRefusal) : Type 0 where
  pub certificate : Certificate
  pub read : AreLinesOf (text_lines text) certificate
  pub refused : IsRefusedBy a certificate refusal

-- the text is no certificate, or its certificate is refused
abbrev pub IsRefusedInText : Analysis → (text : List ℕ) → CheckRefusal → Type 0
IsRefusedInText a text refusal = IsTextFault text refusal ⊎ FailsInText a text refusal

-- why nothing is held of a bare image with this certificate
abbrev pub IsBareTextRefusal : (text : List ℕ) → CheckRefusal → Type 0
IsBareTextRefusal text (Fails (faults.Missing m) name) = (c : Certificate) × AreLinesOf (text_lines text) c × (m ≡ first_method c)
    × (name.items ≡ number_text m)
IsBareTextRefusal text refusal = IsTextFault text refusal
