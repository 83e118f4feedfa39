-- Facts that lines say of a program whose methods have names; and which lines say nothing of it.
use Rattle.std.specs.Prelude.{◌≡◌, ℕ, ◌*◌, List, [], ◌∷◌, ◌++◌, IsSome, slice_get, map, Some, None}
use Rattle.loop_nest.specs.Digraph.{Digraph}
use Rattle.loop_nest.specs.Walks.{IsMember}
use Rattle.bytecode_model.specs.Program.{Program, body_of}
use Rattle.method_flow.specs.Calls.{IsCall, IsStartOf, IsTarget}
use Rattle.method_flow.specs.Flow.{Flow}
use Rattle.method_flow.specs.Graphs.{IsGraphOf}
use Rattle.method_flow.specs.Nodes.{MayRaise}
use Rattle.flow_facts.specs.declared.facts.Scope.{Scope}
use Rattle.flow_facts.specs.declared.facts.Scope.TheVariants.{Own, Per, In}
use Rattle.flow_facts.specs.declared.line.FactLine.{FactLine}
use Rattle.flow_facts.specs.declared.line.FactLine.TheVariants.{Total, Only}
use Rattle.flow_facts.specs.declared.line.NodeName.{NodeName}
use Rattle.flow_facts.specs.declared.line.NodeName.TheVariants.{Instruction, RaiseStep}
use Rattle.flow_facts.specs.declared.line.NumberedFact.{NumberedFact}
use Rattle.flow_facts.specs.declared.line.OnlyLine.{OnlyLine}
use Rattle.flow_facts.specs.declared.line.SaidScope.{SaidScope}
use Rattle.flow_facts.specs.declared.line.SaidScope.TheVariants.{Alone, PerLoop, InMethod}
use Rattle.flow_facts.specs.declared.line.TotalLine.{TotalLine}
use Rattle.flow_facts.specs.Facts.{Facts, no_facts}
use Rattle.flow_facts.specs.Lines.{node_of}

-- ---- methods

-- the name that a table has for a method, as bounds files write it
abbrev pub name_in : Flow → (method : ℕ) → List ℕ
name_in f m = elim (slice_get f.methods m) [ None ↦ [] | Some k ↦ k.name ]

-- a method with code has the name
abbrev pub Names : Program → (name_of : ℕ → List ℕ) → (text : List ℕ) → (method : ℕ) → Type 0
Names P name_of text m = IsSome (body_of P m) × (name_of m ≡ text)

-- ---- places and scopes

-- an instruction of the method begins there, or one that may raise
abbrev pub IsNodeOf : Program → (method : ℕ) → NodeName → Type 0
IsNodeOf P m (Instruction p) = IsStartOf P m p
IsNodeOf P m (RaiseStep p) = IsStartOf P m p × MayRaise P m p

-- the loop whose header is the instruction at the place has the node, in the method's graph
pub record IsHeldBy (P : Program) (m place node : ℕ) : Type 0 where
  pub graph : Digraph
  pub is_graph : IsGraphOf P m graph
  pub held : IsMember graph (2 * place) node

abbrev pub IsScopeOf : Program → (name_of : ℕ → List ℕ) → (method node : ℕ) → SaidScope → Scope → Type 0
IsScopeOf P name_of m u Alone scope = scope ≡ Own
IsScopeOf P name_of m u (PerLoop p) scope = (scope ≡ Per p) × IsHeldBy P m p u
IsScopeOf P name_of m u (InMethod text) scope = (root : ℕ) × (scope ≡ In root) × Names P name_of text root

-- each name is that of one of the invoke's targets, in their order
abbrev pub AreTargets : Program → (name_of : ℕ → List ℕ) → (method place : ℕ) → List (List ℕ) → List ℕ → Type 0
AreTargets P name_of m p [] ts = ts ≡ []
AreTargets P name_of m p (text ∷ texts) ts =
    (t : ℕ) × (others : List ℕ) × (ts ≡ t ∷ others) × Names P name_of text t × IsTarget P m p t × AreTargets P name_of m p texts others

-- ---- what lines say

-- the line says of a method of the program that the node is visited at most so often in the scope
pub record IsSaidOf (P : Program) (name_of : ℕ → List ℕ) (t : TotalLine) (m : ℕ) (scope : Scope) : Type 0 where
  pub named : Names P name_of t.name m
  pub node : IsNodeOf P m t.node
  pub scope_is : IsScopeOf P name_of m (node_of t.node) t.scope scope

abbrev pub count_fact : TotalLine → (method : ℕ) → Scope → Facts
count_fact t m scope = record { counts = record { method = m; nodes = node_of t.node ∷ []; most = t.most; scope = scope } ∷ []; targets = [] }

abbrev pub MeansTotal : Program → (name_of : ℕ → List ℕ) → TotalLine → Facts → Type 0
MeansTotal P name_of t f = (m : ℕ) × (scope : Scope) × (f ≡ count_fact t m scope) × IsSaidOf P name_of t m scope

-- an invoke of a method of the program runs one of these of its targets
pub record MeansOnly (P : Program) (name_of : ℕ → List ℕ) (o : OnlyLine) (f : Facts) : Type 0 where
  pub method : ℕ
  pub targets : List ℕ
  pub named : Names P name_of o.name method
  pub start : IsStartOf P method o.place
  pub invokes : IsCall P method o.place
  pub targets_are : AreTargets P name_of method o.place o.targets targets
  pub fact_is : f ≡ record { counts = []; targets = record { method = method; place = o.place; targets = targets } ∷ [] }

-- what a line says of the program, where it says something
abbrev pub Means : Program → (name_of : ℕ → List ℕ) → FactLine → Facts → Type 0
Means P name_of (Total t) f = MeansTotal P name_of t f
Means P name_of (Only o) f = MeansOnly P name_of o f

abbrev pub both_facts : Facts → Facts → Facts
both_facts a b = record { counts = a.counts ++ b.counts; targets = a.targets ++ b.targets }

-- the facts of all lines, in their order
abbrev pub MeanAll : Program → (name_of : ℕ → List ℕ) → List FactLine → Facts → Type 0
MeanAll P name_of [] f = f ≡ no_facts
MeanAll P name_of (l ∷ ls) f =
    (first : Facts) × (rest : Facts) × (f ≡ both_facts first rest) × Means P name_of l first × MeanAll P name_of ls rest

-- a line that says nothing of it
abbrev pub IsNoFact : Program → (name_of : ℕ → List ℕ) → FactLine → Type 0
IsNoFact P name_of l = (f : Facts) → ¬ Means P name_of l f

abbrev pub facts_said : List NumberedFact → List FactLine
facts_said ls = map (λ l. l.fact) ls
