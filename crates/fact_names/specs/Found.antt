-- What is found of lines, line by line, method by method.
use Rattle.std.specs.Prelude.{◌≡◌, ◌↔◌, ℕ, suc, ◌*◌, ◌<◌, List, [], ◌∷◌, length, map, take, Contains, Option, None, Some, slice_get, slice_index_or}
use Rattle.opcodes.specs.Start.{IsStart, starts_of}
use Rattle.loop_nest.specs.Digraph.{Digraph}
use Rattle.loop_nest.specs.Walks.{IsMember}
use Rattle.bytecode_model.specs.Program.{Program}
use Rattle.method_flow.specs.Flow.{Coded, Flow, IsCoded, IsCodedOf, IsFlowOf}
use Rattle.method_flow.specs.Graphs.{IsGraphOf}
use Rattle.flow_graph.specs.Edges.{RaisesAt}
use Rattle.flow_facts.specs.declared.facts.Scope.{Scope}
use Rattle.flow_facts.specs.declared.facts.Scope.TheVariants.{Own, Per}
use Rattle.flow_facts.specs.declared.line.FactLine.{FactLine}
use Rattle.flow_facts.specs.declared.line.FactLine.TheVariants.{Total, Only}
use Rattle.flow_facts.specs.declared.line.NodeName.{NodeName}
use Rattle.flow_facts.specs.declared.line.NodeName.TheVariants.{Instruction, RaiseStep}
use Rattle.flow_facts.specs.declared.line.NumberedFact.{NumberedFact}
use Rattle.flow_facts.specs.declared.line.SaidScope.{SaidScope}
use Rattle.flow_facts.specs.declared.line.SaidScope.TheVariants.{Alone, PerLoop, InMethod}
use Rattle.flow_facts.specs.declared.line.TotalLine.{TotalLine}
use Rattle.flow_facts.specs.Facts.{CountFact, Facts}
use Rattle.flow_facts.specs.Lines.{node_of}
use Rattle.fact_names.specs.declared.fault.NameFault.{NameFault}
use Rattle.fact_names.specs.declared.fault.NameFault.TheVariants as faults
use Rattle.fact_names.specs.declared.naming.Found.{Found}
use Rattle.fact_names.specs.Named.{name_in, IsSaidOf}
use Rattle.fact_names.specs.Refused.{IsOwn, IsOwnScope}

-- the name of the method that a line has
abbrev pub name_said : FactLine → List ℕ
name_said (Total t) = t.name
name_said (Only o) = o.name

-- ---- by the code

-- an instruction of the code begins there, or one that may raise
abbrev pub IsNodeIn : (code : List ℕ) → NodeName → Type 0
IsNodeIn code (Instruction p) = IsStart code p
IsNodeIn code (RaiseStep p) = RaisesAt code p

-- the scope in which visits of the node are counted, by the graph; none where it isn't one of the method's own activations
abbrev pub IsLoopScopeBy : Digraph → (node place : ℕ) → Option Scope → Type 0
IsLoopScopeBy g u p None = ¬ IsMember g (2 * p) u
IsLoopScopeBy g u p (Some scope) = (scope ≡ Per p) × IsMember g (2 * p) u

abbrev pub IsScopeBy : Digraph → (node : ℕ) → SaidScope → Option Scope → Type 0
IsScopeBy g u Alone scope = scope ≡ Some Own
IsScopeBy g u (PerLoop p) scope = IsLoopScopeBy g u p scope
IsScopeBy g u (InMethod name) scope = scope ≡ None

-- the node and the scope that a line says of the method's own activations, where there are such
abbrev pub IsFoundBy : (code : List ℕ) → Digraph → TotalLine → Option (ℕ × Scope) → Type 0
IsFoundBy code g t None = IsNodeIn code t.node → IsScopeBy g (node_of t.node) t.scope None
IsFoundBy code g t (Some x) = IsNodeIn code t.node × (x.0 ≡ node_of t.node) × IsScopeBy g (node_of t.node) t.scope (Some x.1)

-- where the instructions of a method begin, and its graph
pub record ArePlacesOf (k : Coded) (starts : List ℕ) (g : Digraph) : Type 0 where
  pub coded : IsCoded k
  pub starts_are : starts ≡ starts_of k.code
  pub nodes : g.nodes ≡ 2 * length k.code
  pub graph : (P : Program) (m : ℕ) → IsCodedOf P m k → IsGraphOf P m g

-- ---- in a program

-- what the line says of the method m, where it says something of its own activations
abbrev pub IsFoundOf : Coded → (method : ℕ) → TotalLine → Option Found → Type 0
IsFoundOf k m t None = (P : Program) (name_of : ℕ → List ℕ) → IsCodedOf P m k → IsOwnScope t.scope → (scope : Scope) → ¬ IsSaidOf P name_of t m scope
IsFoundOf k m t (Some x) = (x.method ≡ m) × (x.node ≡ node_of t.node) × (x.most ≡ t.most)
    × ((P : Program) (name_of : ℕ → List ℕ) → IsCodedOf P m k → name_of m ≡ t.name → IsSaidOf P name_of t m x.scope)

-- ---- line by line

-- what the line says, or that it says nothing of the methods below a number
abbrev pub IsFoundBelow : Program → (name_of : ℕ → List ℕ) → FactLine → (end : ℕ) → Option Found → Type 0
IsFoundBelow P name_of (Total t) n None = (m : ℕ) (scope : Scope) → m < n → ¬ IsSaidOf P name_of t m scope
IsFoundBelow P name_of (Total t) n (Some x) = IsSaidOf P name_of t x.method x.scope × (x.node ≡ node_of t.node) × (x.most ≡ t.most)
IsFoundBelow P name_of (Only o) n x = Unit {0}

-- so for each line of an activation
pub record AreFoundBelow (P : Program) (name_of : ℕ → List ℕ) (lines : List NumberedFact) (end : ℕ) (found : List (Option Found)) : Type 0 where
  pub long : length found ≡ length lines
  pub each : (i : ℕ) (l : NumberedFact) → slice_get lines i ≡ Some l → IsOwn l.fact → IsFoundBelow P name_of l.fact end (slice_index_or found i None)

-- of each program of the table
abbrev pub AreFoundIn : Flow → List NumberedFact → (end : ℕ) → List (Option Found) → Type 0
AreFoundIn f lines n found = (P : Program) → IsFlowOf P f → AreFoundBelow P (name_in f) lines n found

-- with one method more
abbrev pub IsLookedAt : Coded → (method : ℕ) → FactLine → (old new : Option Found) → Type 0
IsLookedAt k m l old new' = (P : Program) (name_of : ℕ → List ℕ) → IsCodedOf P m k → name_of m ≡ k.name → name_said l ≡ k.name → IsOwn l
    → IsFoundBelow P name_of l m old → IsFoundBelow P name_of l (suc m) new'

abbrev pub AreLookedAt : Coded → (method : ℕ) → List NumberedFact → (old new : List (Option Found)) → Type 0
AreLookedAt k m lines old new' = (P : Program) (name_of : ℕ → List ℕ) → IsCodedOf P m k → name_of m ≡ k.name → AreFoundBelow P name_of lines m old
    → AreFoundBelow P name_of lines (suc m) new'

-- ---- their facts

abbrev pub count_of : Found → CountFact
count_of x = record { method = x.method; nodes = x.node ∷ []; most = x.most; scope = x.scope }

abbrev pub facts_of : List Found → Facts
facts_of xs = record { counts = map count_of xs; targets = [] }

-- each was found
pub record AreAllFound (found : List (Option Found)) (facts : Facts) : Type 0 where
  pub items : List Found
  pub each : found ≡ map (λ x. Some x) items
  pub facts_are : facts ≡ facts_of items

-- that of the line of this number was not, and those before it were
pub record IsFirstMissing (lines : List NumberedFact) (found : List (Option Found)) (number : ℕ) : Type 0 where
  pub index : ℕ
  pub line : NumberedFact
  pub there : slice_get lines index ≡ Some line
  pub number_is : number ≡ line.line
  pub missing : slice_index_or found index None ≡ None
  pub before : List Found
  pub found_before : take index found ≡ map (λ x. Some x) before

abbrev pub IsMissing : List NumberedFact → List (Option Found) → NameFault → Type 0
IsMissing lines found (faults.Scope number) = ⊥
IsMissing lines found (faults.Line number) = IsFirstMissing lines found number
IsMissing lines found faults.NoMemory = Unit {0}

-- ---- lines by name

-- these are the numbers of the lines that have the name
abbrev pub AreLinesOf : List NumberedFact → (name : List ℕ) → List ℕ → Type 0
AreLinesOf lines name own = (i : ℕ) → Contains own i ↔ ((l : NumberedFact) × (slice_get lines i ≡ Some l) × (name_said l.fact ≡ name))
