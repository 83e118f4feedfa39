-- Why lines give no facts of a program.
use Rattle.std.specs.Prelude.{◌≡◌, ℕ, List, ◌∷◌, ◌++◌, All}
use Rattle.bytecode_model.specs.Program.{Program}
use Rattle.method_flow.specs.Flow.{Flow, IsFlowOf}
use Rattle.flow_facts.specs.declared.line.FactLine.{FactLine}
use Rattle.flow_facts.specs.declared.line.FactLine.TheVariants.{Total, Only}
use Rattle.flow_facts.specs.declared.line.NumberedFact.{NumberedFact}
use Rattle.flow_facts.specs.declared.line.SaidScope.{SaidScope}
use Rattle.flow_facts.specs.declared.line.SaidScope.TheVariants.{Alone, PerLoop, InMethod}
use Rattle.flow_facts.specs.Facts.{Facts}
use Rattle.fact_names.specs.declared.fault.NameFault.{NameFault}
use Rattle.fact_names.specs.declared.fault.NameFault.TheVariants.{Scope, Line, NoMemory}
use Rattle.fact_names.specs.Named.{name_in, MeanAll, IsNoFact, facts_said}

-- ---- lines of an activation

-- visits are counted in an activation of the method itself, or in a stay in a loop of it
abbrev pub IsOwnScope : SaidScope → Type 0
IsOwnScope Alone = Unit {0}
IsOwnScope (PerLoop p) = Unit {0}
IsOwnScope (InMethod name) = ⊥

-- a line that says how often a node is visited in such a scope
abbrev pub IsOwn : FactLine → Type 0
IsOwn (Total t) = IsOwnScope t.scope
IsOwn (Only o) = ⊥

abbrev pub AreOwn : List NumberedFact → Type 0
AreOwn ls = All (λ l. IsOwn l.fact) ls

-- ---- causes

-- the line of this number, and those before it
pub record IsLineOf (lines : List NumberedFact) (number : ℕ) : Type 0 where
  pub before : List NumberedFact
  pub line : NumberedFact
  pub after : List NumberedFact
  pub lines_are : lines ≡ before ++ line ∷ after
  pub number_is : number ≡ line.line

-- the lines before it are of activations, and it isn't
pub record IsFirstOther (lines : List NumberedFact) (number : ℕ) : Type 0 where
  pub at : IsLineOf lines number
  pub own : AreOwn at.before
  pub other : ¬ IsOwn at.line.fact

-- All are of activations. Those before it say something of each program of the table, and it says nothing.
pub record IsFirstNoFact (f : Flow) (lines : List NumberedFact) (number : ℕ) : Type 0 where
  pub own : AreOwn lines
  pub at : IsLineOf lines number
  pub before : (P : Program) → IsFlowOf P f → (facts : Facts) × MeanAll P (name_in f) (facts_said at.before) facts
  pub nothing : (P : Program) → IsFlowOf P f → IsNoFact P (name_in f) at.line.fact

-- of want of memory nothing is said
abbrev pub AreUnnamed : Flow → List NumberedFact → NameFault → Type 0
AreUnnamed f lines (Scope number) = IsFirstOther lines number
AreUnnamed f lines (Line number) = IsFirstNoFact f lines number
AreUnnamed f lines NoMemory = Unit {0}

-- all lines are of activations, and these are their facts, of each program of the table
pub record AreNamed (f : Flow) (lines : List NumberedFact) (facts : Facts) : Type 0 where
  pub own : AreOwn lines
  pub mean : (P : Program) → IsFlowOf P f → MeanAll P (name_in f) (facts_said lines) facts
