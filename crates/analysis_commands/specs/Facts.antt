-- The facts that a text gives of a program, and why it gives none.
use Rattle.std.specs.Prelude.{◌⊎◌, ℕ, List}
use Rattle.class_pool.specs.declared.class.ClassFile.{ClassFile}
use Rattle.program_tables.specs.Resolved.{resolved}
use Rattle.name_laws.specs.Written.{written_name}
use Rattle.method_flow.specs.Flow.{Flow}
use Rattle.flow_facts.specs.declared.line.NumberedFact.{NumberedFact}
use Rattle.flow_facts.specs.declared.reading.FactsFault.TheVariants.{Line, Twice}
use Rattle.flow_facts.specs.Facts.{Facts}
use Rattle.flow_facts.specs.Grammar.{AreFactsRead, AreFactsRefused}
use Rattle.fact_names.specs.declared.fault.NameFault.{NameFault}
use Rattle.fact_names.specs.declared.fault.NameFault.TheVariants as names
use Rattle.fact_names.specs.Named.{MeanAll, IsNoFact, facts_said}
use Rattle.fact_names.specs.Refused.{AreOwn, IsLineOf, IsFirstOther, AreNamed, AreUnnamed}
use Rattle.analysis_commands.specs.declared.facts.FactsRefusal.{FactsRefusal}
use Rattle.analysis_commands.specs.declared.facts.FactsRefusal.TheVariants.{BadFacts, TwiceFact, NoFact, NoMemory}

-- ---- of a program

-- The lines of the text are all of activations of the methods that they name, and say these facts of the program.
pub record AreFactsOf (cs : List ClassFile) (text : List ℕ) (facts : Facts) : Type 0 where
  pub lines : List NumberedFact
  pub read : AreFactsRead text lines
  pub own : AreOwn lines
  pub mean : MeanAll (resolved cs) (written_name cs) (facts_said lines) facts

-- The text is read, and all lines are of activations. Those before the one of this number say something of the program, and it says nothing.
pub record IsNoFactOf (cs : List ClassFile) (text : List ℕ) (number : ℕ) : Type 0 where
  pub lines : List NumberedFact
  pub read : AreFactsRead text lines
  pub own : AreOwn lines
  pub at : IsLineOf lines number
  pub before : (facts : Facts) × MeanAll (resolved cs) (written_name cs) (facts_said at.before) facts
  pub nothing : IsNoFact (resolved cs) (written_name cs) at.line.fact

-- a line is none of the grammar, or, where the text is read, the first that isn't of activations of the method that it names
abbrev pub AreBadFacts : (text : List ℕ) → (number : ℕ) → Type 0
AreBadFacts text number = AreFactsRefused text (Line number) ⊎ ((lines : List NumberedFact) × AreFactsRead text lines × IsFirstOther lines number)

-- why the text gives no facts of the program
abbrev pub IsFactsRefusal : List ClassFile → (text : List ℕ) → FactsRefusal → Type 0
IsFactsRefusal cs text (BadFacts number) = AreBadFacts text number
IsFactsRefusal cs text (TwiceFact number) = AreFactsRefused text (Twice number)
IsFactsRefusal cs text (NoFact number) = IsNoFactOf cs text number
IsFactsRefusal cs text NoMemory = Unit {0}

-- why a text gives no facts of any program: of no methods
abbrev pub IsTextRefusal : (text : List ℕ) → FactsRefusal → Type 0
IsTextRefusal text (BadFacts number) = AreFactsRefused text (Line number)
IsTextRefusal text (TwiceFact number) = AreFactsRefused text (Twice number)
IsTextRefusal text (NoFact number) = ⊥
IsTextRefusal text NoMemory = Unit {0}

-- the text is one of facts, of whatever program
abbrev pub AreFactsGiven : (text : List ℕ) → Type 0
AreFactsGiven text = (lines : List NumberedFact) × AreFactsRead text lines

-- ---- by the table of a program

-- these are the facts of the text, of each program of the table
pub record AreFactsBy (f : Flow) (text : List ℕ) (facts : Facts) : Type 0 where
  pub lines : List NumberedFact
  pub read : AreFactsRead text lines
  pub named : AreNamed f lines facts

-- the text is read, and its lines are refused so
pub record IsUnnamedIn (f : Flow) (text : List ℕ) (fault : NameFault) : Type 0 where
  pub lines : List NumberedFact
  pub read : AreFactsRead text lines
  pub unnamed : AreUnnamed f lines fault

-- why it gives none
abbrev pub IsRefusalBy : Flow → (text : List ℕ) → FactsRefusal → Type 0
IsRefusalBy f text (BadFacts number) = AreFactsRefused text (Line number) ⊎ IsUnnamedIn f text (names.Scope number)
IsRefusalBy f text (TwiceFact number) = AreFactsRefused text (Twice number)
IsRefusalBy f text (NoFact number) = IsUnnamedIn f text (names.Line number)
IsRefusalBy f text NoMemory = Unit {0}
