-- A line of the text of facts: its words, and what it says.
use Rattle.std.specs.Prelude.{◌≡◌, ◌≢◌, ℕ, ◌+◌, ◌*◌, ◌==◌, ◌<◌, List, [], ◌∷◌, ◌++◌, length, codes, All, AllPairs}
use Rattle.std.specs.List.{slice_split}
use Rattle.bound_texts.specs.Loops.Lines.{IsNumber, IsSilent}
use Rattle.flow_facts.specs.declared.line.NodeName.{NodeName}
use Rattle.flow_facts.specs.declared.line.NodeName.TheVariants.{Instruction, RaiseStep}
use Rattle.flow_facts.specs.declared.line.SaidScope.{SaidScope}
use Rattle.flow_facts.specs.declared.line.SaidScope.TheVariants.{Alone, PerLoop, InMethod}
use Rattle.flow_facts.specs.declared.line.TotalLine.{TotalLine}
use Rattle.flow_facts.specs.declared.line.OnlyLine.{OnlyLine}
use Rattle.flow_facts.specs.declared.line.FactLine.{FactLine}
use Rattle.flow_facts.specs.declared.line.FactLine.TheVariants.{Total, Only}
use Rattle.flow_facts.specs.declared.line.Subject.{Subject}
use Rattle.flow_facts.specs.declared.line.Subject.TheVariants.{Visits, Targets}

-- ---- its words

-- the parts between the spaces
abbrev pub words_in : (line : List ℕ) → List (List ℕ)
words_in line = slice_split (λ byte. byte == 32) line

-- the place of an instruction, or of a raise step, with an r
abbrev pub NamesNode : (word : List ℕ) → NodeName → Type 0
NamesNode word (Instruction p) = IsNumber word p
NamesNode word (RaiseStep p) = (digits : List ℕ) × (word ≡ digits ++ codes "r") × IsNumber digits p

-- `total<=N`
abbrev pub SaysMost : (word : List ℕ) → (most : ℕ) → Type 0
SaysMost word n = (digits : List ℕ) × (word ≡ codes "total<=" ++ digits) × IsNumber digits n

abbrev pub IsMethodName : List ℕ → Type 0
IsMethodName name = 0 < length name

-- nothing, `per PC` or `in NAME`
abbrev pub SayScope : (words : List (List ℕ)) → SaidScope → Type 0
SayScope words Alone = words ≡ []
SayScope words (PerLoop p) = (place : List ℕ) × (words ≡ codes "per" ∷ place ∷ []) × IsNumber place p
SayScope words (InMethod name) = (words ≡ codes "in" ∷ name ∷ []) × IsMethodName name

-- `NAME PC total<=N`, and the scope behind it
pub record AreTotalWords (words : List (List ℕ)) (t : TotalLine) : Type 0 where
  pub node : List ℕ
  pub most : List ℕ
  pub scope : List (List ℕ)
  pub words_are : words ≡ t.name ∷ node ∷ most ∷ scope
  pub name_is : IsMethodName t.name
  pub node_is : NamesNode node t.node
  pub most_is : SaysMost most t.most
  pub scope_is : SayScope scope t.scope

-- `NAME PC only NAME ..`, with one target at least, each once
pub record AreOnlyWords (words : List (List ℕ)) (o : OnlyLine) : Type 0 where
  pub place : List ℕ
  pub words_are : words ≡ o.name ∷ place ∷ codes "only" ∷ o.targets
  pub name_is : IsMethodName o.name
  pub place_is : IsNumber place o.place
  pub some : 0 < length o.targets
  pub names : All IsMethodName o.targets
  pub different : AllPairs (λ a b. a ≢ b) o.targets

abbrev pub AreFactWords : (words : List (List ℕ)) → FactLine → Type 0
AreFactWords words (Total t) = AreTotalWords words t
AreFactWords words (Only o) = AreOnlyWords words o

-- ---- the line

abbrev pub IsFactLine : (line : List ℕ) → FactLine → Type 0
IsFactLine line fact = (¬ IsSilent line) × AreFactWords (words_in line) fact

-- of no line of the grammar
abbrev pub IsNoFactLine : (line : List ℕ) → Type 0
IsNoFactLine line = (¬ IsSilent line) × ((fact : FactLine) → ¬ AreFactWords (words_in line) fact)

-- what a text says once: how often a node is visited in a scope, and what an invoke runs
abbrev pub subject_of : FactLine → Subject
subject_of (Total t) = Visits t.name t.node t.scope
subject_of (Only o) = Targets o.name o.place

-- the node of the method's graph: 2p is the instruction at place p, and 2p + 1 the raise step at it
abbrev pub node_of : NodeName → ℕ
node_of (Instruction p) = 2 * p
node_of (RaiseStep p) = 2 * p + 1
