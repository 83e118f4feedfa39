-- What `check --facts` finds of a program, of the bounds of its loops, of facts, and of a certificate.
use Rattle.std.specs.Prelude.{◌≡◌, ◌⊎◌, ℕ, List, Some}
use Rattle.class_pool.specs.declared.class.ClassFile.{ClassFile}
use Rattle.program_tables.specs.Resolved.{resolved}
use Rattle.name_laws.specs.Written.{written_name}
use Rattle.ascii_text.specs.Line.{lines_of as text_lines}
use Rattle.command_line.specs.declared.command.Settings.{Settings}
use Rattle.bound_texts.specs.Loops.Bounds.{LoopBound}
use Rattle.bound_texts.specs.Loops.Grammar.{IsRead}
use Rattle.bytecode_model.specs.Program.{Program}
use Rattle.method_flow.specs.Flow.{Flow, IsFlowOf}
use Rattle.node_costs.specs.Costs as table
use Rattle.bound_rules.specs.declared.faults.CheckFault.{CheckFault}
use Rattle.bound_rules.specs.declared.faults.CheckFault.TheVariants.{Missing}
use Rattle.flow_facts.specs.Facts.{Facts}
use Rattle.priced_cert.specs.Certificate.{PricedCertificate}
use Rattle.priced_cert.specs.Texts.{ArePricedLinesOf, IsFirstUnpricedLine, SaysPriced}
use Rattle.fact_rules.specs.Conditions.{MeetsPrices}
use Rattle.fact_rules.specs.Refused.{IsRefusedWithPrices, IsRefusedWithPricesOrMemory}
use Rattle.fact_rules.specs.declared.faults.PricedFault.{PricedFault}
use Rattle.fact_rules.specs.declared.faults.PricedFault.TheVariants as faults
use Rattle.answer_lines.specs.declared.analysis.Held.{Held}
use Rattle.analysis_commands.specs.declared.check.CheckRefusal.{CheckRefusal}
use Rattle.analysis_commands.specs.declared.check.CheckRefusal.TheVariants.{NoAnalysis, BadCert, Fails, NoMemory}
use Rattle.analysis_commands.specs.Analysis.{EachFits, timing_of, bounds_of, named_or_number, number_text, IsAnalysisFault}
use Rattle.analysis_commands.specs.declared.analysis.Analysis.{Analysis}
use Rattle.analysis_commands.specs.Answers.{table_name, IsHeldInText, IsRefusedInText, IsBareTextRefusal}
use Rattle.analysis_commands.specs.Checking.{IsHeld, IsCheckRefusal, method_of, fault_name, first_method}
use Rattle.analysis_commands.specs.declared.facts.FactsRefusal.{FactsRefusal}
use Rattle.answer_lines.specs.BoundsFaults.{IsBoundsFault}
use Rattle.analysis_commands.specs.declared.priced_check.NotHeld.{NotHeld}
use Rattle.analysis_commands.specs.declared.priced_check.NotHeld.TheVariants.{NoFacts, NoPrice, Refused}
use Rattle.analysis_commands.specs.Facts.{AreFactsOf, IsFactsRefusal, IsTextRefusal, AreFactsGiven, AreFactsBy, IsRefusalBy}
use Rattle.analysis_commands.specs.PricedBounds.{IsReady, MeetsOf}

-- ---- what holds

-- each code fits the method cache, and these are the bounds and the facts of the first two texts
pub record ReadsFacts (cs : List ClassFile) (s : Settings) (bounds_text facts_text : List ℕ) (bounds : List LoopBound) (facts : Facts) : Type 0 where
  pub codes_fit : EachFits s cs
  pub bounds_read : IsRead bounds_text bounds
  pub facts_are : AreFactsOf cs facts_text facts

-- the certificate of the text, which is of version 3, meets the conditions by the facts; this is what is said of it
pub record IsHeldWith (cs : List ClassFile) (s : Settings) (bounds_text facts_text cert_text : List ℕ) (h : Held) : Type 0 where
  pub bounds : List LoopBound
  pub facts : Facts
  pub reads : ReadsFacts cs s bounds_text facts_text bounds facts
  pub certificate : PricedCertificate
  pub cert_read : ArePricedLinesOf (text_lines cert_text) certificate
  pub meets : MeetsPrices (resolved cs) (timing_of s) (bounds_of cs bounds) facts certificate
  pub root : h.root ≡ certificate.plain.root
  pub name : h.name.items ≡ written_name cs certificate.plain.root
  pub bound : h.bound ≡ certificate.plain.bound

-- So it is of a certificate of version 3. One of another version is checked as without facts, which are read all the same.
abbrev pub IsHeldByFacts : List ClassFile → Settings → (bounds_text facts_text cert_text : List ℕ) → Held → Type 0
IsHeldByFacts cs s bounds_text facts_text cert_text h =
    (((facts : Facts) × AreFactsOf cs facts_text facts) × IsHeld cs s bounds_text cert_text h) ⊎ IsHeldWith cs s bounds_text facts_text cert_text h

-- ---- the refusals

-- the text is that of a certificate of version 1 or 2 as its first line says, the facts are read, and it is refused so as without facts
pub record IsPlainRefusal (cs : List ClassFile) (s : Settings) (bounds_text facts_text cert_text : List ℕ) (refusal : CheckRefusal) : Type 0 where
  pub other : ¬ SaysPriced (text_lines cert_text)
  pub facts : Facts
  pub facts_are : AreFactsOf cs facts_text facts
  pub refused : IsCheckRefusal cs s bounds_text cert_text refusal

-- the certificate of the text, which is of version 3, is refused so by the facts
pub record IsRefusedByFacts (cs : List ClassFile) (s : Settings) (bounds_text facts_text cert_text : List ℕ) (fault : PricedFault) : Type 0 where
  pub bounds : List LoopBound
  pub facts : Facts
  pub reads : ReadsFacts cs s bounds_text facts_text bounds facts
  pub certificate : PricedCertificate
  pub cert_read : ArePricedLinesOf (text_lines cert_text) certificate
  pub refused : IsRefusedWithPrices (resolved cs) (timing_of s) (bounds_of cs bounds) facts certificate fault

-- the bounds and the facts are read, and with this line no certificate of version 3 begins, of which the first line says that the text is
pub record IsBadPricedCert (cs : List ClassFile) (s : Settings) (bounds_text facts_text cert_text : List ℕ) (line : ℕ) : Type 0 where
  pub bounds : List LoopBound
  pub facts : Facts
  pub reads : ReadsFacts cs s bounds_text facts_text bounds facts
  pub priced : SaysPriced (text_lines cert_text)
  pub first : IsFirstUnpricedLine (text_lines cert_text) line

abbrev pub IsPricedRefusal : List ClassFile → Settings → (bounds_text facts_text cert_text : List ℕ) → CheckRefusal → Type 0
IsPricedRefusal cs s bounds_text facts_text cert_text (NoAnalysis fault) = IsAnalysisFault cs s bounds_text fault
IsPricedRefusal cs s bounds_text facts_text cert_text (BadCert line) = IsBadPricedCert cs s bounds_text facts_text cert_text line
IsPricedRefusal cs s bounds_text facts_text cert_text (Fails fault name) =
    IsRefusedByFacts cs s bounds_text facts_text cert_text (faults.Check fault) × (name.items ≡ fault_name cs fault)
IsPricedRefusal cs s bounds_text facts_text cert_text NoMemory = Unit {0}

-- Why nothing is held, in this order: the methods, the bounds, the facts, the certificate, its conditions.
abbrev pub IsNotHeldWith : List ClassFile → Settings → (bounds_text facts_text cert_text : List ℕ) → NotHeld → Type 0
IsNotHeldWith cs s bounds_text facts_text cert_text (NoFacts refusal) = IsReady cs s bounds_text × IsFactsRefusal cs facts_text refusal
IsNotHeldWith cs s bounds_text facts_text cert_text (NoPrice m u name) =
    IsRefusedByFacts cs s bounds_text facts_text cert_text (faults.Price m u) × (name.items ≡ named_or_number cs m)
IsNotHeldWith cs s bounds_text facts_text cert_text (Refused refusal) =
    IsPlainRefusal cs s bounds_text facts_text cert_text refusal ⊎ IsPricedRefusal cs s bounds_text facts_text cert_text refusal

-- ---- a bare image, which has no classes

-- with this line of the text no certificate of version 3 begins, or this is the first method of one, which is missing
abbrev pub IsBarePricedRefusal : (cert_text : List ℕ) → CheckRefusal → Type 0
IsBarePricedRefusal text (NoAnalysis fault) = ⊥
IsBarePricedRefusal text (BadCert line) = SaysPriced (text_lines text) × IsFirstUnpricedLine (text_lines text) line
IsBarePricedRefusal text (Fails fault name) =
    (c : PricedCertificate) × ArePricedLinesOf (text_lines text) c × (fault ≡ Missing (first_method c.plain))
    × (name.items ≡ number_text (first_method c.plain))
IsBarePricedRefusal text NoMemory = Unit {0}

-- what refuses the bounds or the facts, or else the certificate, or else the first method that is missing
abbrev pub IsBareNotHeldWith : (bounds_text facts_text cert_text : List ℕ) → NotHeld → Type 0
IsBareNotHeldWith bounds_text facts_text cert_text (NoFacts refusal) =
    ((bounds : List LoopBound) × IsRead bounds_text bounds) × IsTextRefusal facts_text refusal
IsBareNotHeldWith bounds_text facts_text cert_text (NoPrice m u name) = ⊥
IsBareNotHeldWith bounds_text facts_text cert_text (Refused (NoAnalysis fault)) = IsBoundsFault bounds_text fault
IsBareNotHeldWith bounds_text facts_text cert_text (Refused refusal) =
    ((bounds : List LoopBound) × IsRead bounds_text bounds) × AreFactsGiven facts_text
    × ((¬ SaysPriced (text_lines cert_text) × IsBareTextRefusal cert_text refusal) ⊎ IsBarePricedRefusal cert_text refusal)

-- ---- by the table of a program

-- the certificate is refused so, of each program of the table
abbrev pub RefusesOf : Analysis → Facts → PricedCertificate → PricedFault → Type 0
RefusesOf a facts c fault =
    (P : Program) → IsFlowOf P a.flow → IsRefusedWithPricesOrMemory P a.timing (table.bounds_of a.flow a.bounds) facts c fault

-- no fact is given of a price at this node of the method; or there was no memory for its name
abbrev pub IsNoPriceOf : Flow → (method node : ℕ) → NotHeld → Type 0
IsNoPriceOf f m u (NoFacts refusal) = ⊥
IsNoPriceOf f m u (NoPrice method node name) = (method ≡ m) × (node ≡ u) × (name.items ≡ table_name f m)
IsNoPriceOf f m u (Refused refusal) = refusal ≡ NoMemory

-- this fails of a method with this name; or there was no memory
abbrev pub IsFailureOf : Flow → CheckFault → NotHeld → Type 0
IsFailureOf f fault (NoFacts refusal) = ⊥
IsFailureOf f fault (NoPrice method node name) = ⊥
IsFailureOf f fault (Refused (Fails it name)) = (it ≡ fault) × (m : ℕ) × (method_of fault ≡ Some m) × (name.items ≡ table_name f m)
IsFailureOf f fault (Refused refusal) = refusal ≡ NoMemory

-- the certificate meets the conditions, and this is said of it
pub record IsHeldPriced (a : Analysis) (facts : Facts) (c : PricedCertificate) (h : Held) : Type 0 where
  pub meets : MeetsOf a facts c
  pub root : h.root ≡ c.plain.root
  pub name : h.name.items ≡ table_name a.flow c.plain.root
  pub bound : h.bound ≡ c.plain.bound

-- it is refused so, with the name of the method
abbrev pub IsUnheldPriced : Analysis → Facts → PricedCertificate → NotHeld → Type 0
IsUnheldPriced a facts c (NoFacts refusal) = ⊥
IsUnheldPriced a facts c (NoPrice m u name) = RefusesOf a facts c (faults.Price m u) × (name.items ≡ table_name a.flow m)
IsUnheldPriced a facts c (Refused (NoAnalysis fault)) = ⊥
IsUnheldPriced a facts c (Refused (BadCert line)) = ⊥
IsUnheldPriced a facts c (Refused (Fails fault name)) =
    RefusesOf a facts c (faults.Check fault) × (m : ℕ) × (method_of fault ≡ Some m) × (name.items ≡ table_name a.flow m)
IsUnheldPriced a facts c (Refused NoMemory) = Unit {0}

-- why a text is no certificate of version 3
abbrev pub IsPricedTextFault : (text : List ℕ) → CheckRefusal → Type 0
IsPricedTextFault text (NoAnalysis fault) = ⊥
IsPricedTextFault text (BadCert line) = IsFirstUnpricedLine (text_lines text) line
IsPricedTextFault text (Fails fault name) = ⊥
IsPricedTextFault text NoMemory = Unit {0}

-- the certificate of the text is held, or refused
abbrev pub IsHeldInPriced : Analysis → Facts → (text : List ℕ) → Held → Type 0
IsHeldInPriced a facts text h = (c : PricedCertificate) × ArePricedLinesOf (text_lines text) c × IsHeldPriced a facts c h

abbrev pub IsUnheldInPriced : Analysis → Facts → (text : List ℕ) → NotHeld → Type 0
IsUnheldInPriced a facts text refusal =
    ((it : CheckRefusal) × (refusal ≡ Refused it) × IsPricedTextFault text it)
    ⊎ ((c : PricedCertificate) × ArePricedLinesOf (text_lines text) c × IsUnheldPriced a facts c refusal)

-- so it is of a text of version 3, and else as without facts
abbrev pub IsHeldInBoth : Analysis → Facts → (text : List ℕ) → Held → Type 0
IsHeldInBoth a facts text h = IsHeldInText a text h ⊎ IsHeldInPriced a facts text h

abbrev pub IsUnheldInBoth : Analysis → Facts → (text : List ℕ) → NotHeld → Type 0
IsUnheldInBoth a facts text refusal =
    ((it : CheckRefusal) × (refusal ≡ Refused it) × ¬ SaysPriced (text_lines text) × IsRefusedInText a text it)
    ⊎ (SaysPriced (text_lines text) × IsUnheldInPriced a facts text refusal)

-- by the facts of a text
abbrev pub IsHeldByTexts : Analysis → (facts_text text : List ℕ) → Held → Type 0
IsHeldByTexts a facts_text text h = (facts : Facts) × AreFactsBy a.flow facts_text facts × IsHeldInBoth a facts text h

abbrev pub IsUnheldByTexts : Analysis → (facts_text text : List ℕ) → NotHeld → Type 0
IsUnheldByTexts a facts_text text refusal =
    ((it : FactsRefusal) × (refusal ≡ NoFacts it) × IsRefusalBy a.flow facts_text it)
    ⊎ ((facts : Facts) × AreFactsBy a.flow facts_text facts × IsUnheldInBoth a facts text refusal)
