-- What `bound --facts` finds of a program, of the bounds of its loops, of facts, and of a method that is asked for by its name.
use Rattle.std.specs.Prelude.{◌≡◌, ◌≤◌, ℕ, List, [], Option, Some, None}
use Rattle.class_pool.specs.declared.class.ClassFile.{ClassFile}
use Rattle.program_tables.specs.Resolved.{resolved}
use Rattle.bytecode_model.specs.Program.{Program}
use Rattle.ascii_text.specs.Line.{lines_of as text_lines}
use Rattle.command_line.specs.declared.command.Settings.{Settings}
use Rattle.bound_texts.specs.Loops.Bounds.{LoopBound}
use Rattle.bound_texts.specs.Loops.Grammar.{IsRead}
use Rattle.method_flow.specs.Flow.{IsFlowOf}
use Rattle.method_flow.specs.Keeping.{BoundOf}
use Rattle.method_flow.specs.declared.timing.Timing.{Timing}
use Rattle.node_costs.specs.Costs as table
use Rattle.bound_rules.specs.Bounding.{IsAsked, HasNoCause, KeepSize}
use Rattle.bound_rules.specs.Numbers.{IsPrinted}
use Rattle.bound_causes.specs.Naming.{IsNamedBy}
use Rattle.flow_facts.specs.Facts.{Facts}
use Rattle.priced_cert.specs.Certificate.{PricedCertificate, IsPricedInGrammar}
use Rattle.priced_cert.specs.Texts.{ArePricedLinesOf, priced_text}
use Rattle.fact_rules.specs.Conditions.{MeetsPrices}
use Rattle.analysis_commands.specs.declared.analysis.Analysis.{Analysis}
use Rattle.analysis_commands.specs.declared.bound.NotBounded.TheVariants.{NoAnalysis, Forbidden, NoMemory}
use Rattle.analysis_commands.specs.Analysis.{EachFits, timing_of, bounds_of, IsAnalysisFault}
use Rattle.analysis_commands.specs.Bounding.{MethodHasName, IsForbidden, IsBareNotBounded}
use Rattle.analysis_commands.specs.BoundAnswers.{IsNotBoundedBy}
use Rattle.analysis_commands.specs.declared.priced_bound.NotPriced.{NotPriced}
use Rattle.analysis_commands.specs.declared.priced_bound.NotPriced.TheVariants.{NoFacts, NotBound}
use Rattle.analysis_commands.specs.Facts.{AreFactsOf, IsFactsRefusal, IsTextRefusal, AreFactsGiven, AreFactsBy, IsRefusalBy}

-- ---- the certificate

-- a bound isn't above another, of which `never` is the least
abbrev pub IsAtMost : (bound other : Option ℕ) → Type 0
IsAtMost None other = Unit {0}
IsAtMost (Some cycles) None = ⊥
IsAtMost (Some cycles) (Some others) = cycles ≤ others

-- The certificate is of a method that is asked for, of which there is no cause to refuse a bound. It meets the conditions by these facts, all of which count in
-- activations of the methods that they are of; and its last line is at most the number that is printed without facts.
pub record IsBoundWith (P : Program) (t : Timing) (bound_of : BoundOf) (facts : Facts) (named : ℕ → Type 0) (c : PricedCertificate) : Type 0 where
  pub asked : IsAsked P named c.plain.root
  pub no_cause : HasNoCause P t bound_of c.plain.root
  pub none_in_root : c.root_prices ≡ []
  pub meets : MeetsPrices P t bound_of facts c
  pub printed : Option ℕ
  pub is_printed : IsPrinted P t bound_of c.plain.root printed
  pub most : IsAtMost c.plain.bound printed

-- each code fits the method cache, these are the bounds and the facts of two texts, and the last text is that of such a certificate of a method of this name
pub record IsCertTextWith (cs : List ClassFile) (s : Settings) (bounds_text facts_text name text : List ℕ) : Type 0 where
  pub codes_fit : EachFits s cs
  pub bounds : List LoopBound
  pub bounds_read : IsRead bounds_text bounds
  pub facts : Facts
  pub facts_are : AreFactsOf cs facts_text facts
  pub certificate : PricedCertificate
  pub is : IsBoundWith (resolved cs) (timing_of s) (bounds_of cs bounds) facts (MethodHasName cs name) certificate
  pub reads : ArePricedLinesOf (text_lines text) certificate
  pub text_is : text ≡ priced_text certificate

-- ---- the refusals

-- the codes fit and the bounds are read
abbrev pub IsReady : List ClassFile → Settings → (bounds_text : List ℕ) → Type 0
IsReady cs s bounds_text = EachFits s cs × ((bounds : List LoopBound) × IsRead bounds_text bounds)

-- Why no bound is given by facts, in this order: the methods, the bounds, the facts, the causes.
abbrev pub IsNotBoundedWith : List ClassFile → Settings → (bounds_text facts_text name : List ℕ) → NotPriced → Type 0
IsNotBoundedWith cs s bounds_text facts_text name (NoFacts refusal) = IsReady cs s bounds_text × IsFactsRefusal cs facts_text refusal
IsNotBoundedWith cs s bounds_text facts_text name (NotBound (NoAnalysis fault)) = IsAnalysisFault cs s bounds_text fault
IsNotBoundedWith cs s bounds_text facts_text name (NotBound (Forbidden cause subject)) =
    ((facts : Facts) × AreFactsOf cs facts_text facts) × IsForbidden cs s bounds_text name cause subject.items
IsNotBoundedWith cs s bounds_text facts_text name (NotBound NoMemory) = Unit {0}

-- Why none is given of a bare image: what refuses the bounds or the facts, or else that no method has the name.
abbrev pub IsBareNotBoundedWith : (bounds_text facts_text : List ℕ) → NotPriced → Type 0
IsBareNotBoundedWith bounds_text facts_text (NoFacts refusal) = ((bounds : List LoopBound) × IsRead bounds_text bounds) × IsTextRefusal facts_text refusal
IsBareNotBoundedWith bounds_text facts_text (NotBound (NoAnalysis fault)) = IsBareNotBounded bounds_text (NoAnalysis fault)
IsBareNotBoundedWith bounds_text facts_text (NotBound cause) = AreFactsGiven facts_text × IsBareNotBounded bounds_text cause

-- ---- by the table of a program

-- it meets the conditions, of each program of the table
abbrev pub MeetsOf : Analysis → Facts → PricedCertificate → Type 0
MeetsOf a facts c = (P : Program) → IsFlowOf P a.flow → MeetsPrices P a.timing (table.bounds_of a.flow a.bounds) facts c

-- a certificate of the method of this number, without prices in the root
abbrev pub IsFoundFor : (root : ℕ) → PricedCertificate → Type 0
IsFoundFor root c = IsPricedInGrammar c × (c.plain.root ≡ root) × (c.root_prices ≡ [])

-- it meets the conditions, its bound is at most that without facts, and the method's size forbids none
pub record IsPricedFor (a : Analysis) (facts : Facts) (root : ℕ) (c : PricedCertificate) : Type 0 where
  pub root_is : c.plain.root ≡ root
  pub none_in_root : c.root_prices ≡ []
  pub meets : MeetsOf a facts c
  pub printed : Option ℕ
  pub is_printed : (P : Program) → IsFlowOf P a.flow → IsPrinted P a.timing (table.bounds_of a.flow a.bounds) root printed
  pub most : IsAtMost c.plain.bound printed
  pub kept : (P : Program) → IsFlowOf P a.flow → KeepSize P a.timing (table.bounds_of a.flow a.bounds) root

-- the certificate is of the method that is asked for, in each program of the table
abbrev pub IsPricedOf : Analysis → Facts → (named : ℕ → Type 0) → PricedCertificate → Type 0
IsPricedOf a facts named c = (P : Program) → IsFlowOf P a.flow → IsBoundWith P a.timing (table.bounds_of a.flow a.bounds) facts named c

-- the text is that of such a certificate, of each program of the table
pub record IsBoundTextWith (a : Analysis) (facts : Facts) (name text : List ℕ) : Type 0 where
  pub certificate : PricedCertificate
  pub is : (P : Program) → IsFlowOf P a.flow → IsBoundWith P a.timing (table.bounds_of a.flow a.bounds) facts (IsNamedBy a.flow name) certificate
  pub reads : ArePricedLinesOf (text_lines text) certificate
  pub text_is : text ≡ priced_text certificate

-- the same, by the facts of a text
pub record IsBoundTextBy (a : Analysis) (facts_text name text : List ℕ) : Type 0 where
  pub facts : Facts
  pub facts_are : AreFactsBy a.flow facts_text facts
  pub is : IsBoundTextWith a facts name text

abbrev pub IsNotPricedBy : Analysis → (facts_text name : List ℕ) → NotPriced → Type 0
IsNotPricedBy a facts_text name (NoFacts refusal) = IsRefusalBy a.flow facts_text refusal
IsNotPricedBy a facts_text name (NotBound cause) = ((facts : Facts) × AreFactsBy a.flow facts_text facts) × IsNotBoundedBy a name cause
