-- The text of facts, line by line.
use Rattle.std.specs.Prelude.{◌≡◌, ◌≢◌, ℕ, suc, List, [], ◌∷◌, ◌++◌, length, map, AllPairs, Contains}
use Rattle.ascii_text.specs.Line.{lines_of}
use Rattle.bound_texts.specs.Loops.Lines.{IsSilent}
use Rattle.flow_facts.specs.declared.line.NumberedFact.{NumberedFact}
use Rattle.flow_facts.specs.declared.line.Subject.{Subject}
use Rattle.flow_facts.specs.declared.reading.FactsFault.{FactsFault}
use Rattle.flow_facts.specs.declared.reading.FactsFault.TheVariants.{Line, Twice, NoMemory}
use Rattle.flow_facts.specs.Lines.{IsFactLine, IsNoFactLine, subject_of}

-- what the line of this number says: nothing, or a fact
abbrev pub SaysFacts : (number : ℕ) (line : List ℕ) → List NumberedFact → Type 0
SaysFacts number line [] = IsSilent line
SaysFacts number line (f ∷ []) = (f.line ≡ number) × IsFactLine line f.fact
SaysFacts number line fs = ⊥

-- the facts that lines give, in their order; the first line has this number
abbrev pub GiveFacts : (number : ℕ) (lines : List (List ℕ)) → List NumberedFact → Type 0
GiveFacts number [] fs = fs ≡ []
GiveFacts number (line ∷ lines) fs =
    (first : List NumberedFact) × (rest : List NumberedFact) × (fs ≡ first ++ rest) × SaysFacts number line first × GiveFacts (suc number) lines rest

abbrev pub subjects : List NumberedFact → List Subject
subjects fs = map (λ f. subject_of f.fact) fs

-- nothing is said twice
abbrev pub AreOfDifferentSubjects : List NumberedFact → Type 0
AreOfDifferentSubjects fs = AllPairs (λ a b. a ≢ b) (subjects fs)

-- the facts that a text gives; its lines count from 1
pub record AreFactsRead (text : List ℕ) (fs : List NumberedFact) : Type 0 where
  pub given : GiveFacts 1 (lines_of text) fs
  pub different : AreOfDifferentSubjects fs

-- The lines before the one of this number give facts of different subjects.
pub record AreFactsReadTo (text : List ℕ) (number : ℕ) : Type 0 where
  pub before : List (List ℕ)
  pub line : List ℕ
  pub after : List (List ℕ)
  pub lines : lines_of text ≡ before ++ line ∷ after
  pub number_is : number ≡ suc (length before)
  pub facts : List NumberedFact
  pub given : GiveFacts 1 before facts
  pub different : AreOfDifferentSubjects facts

-- the line says what a line before it says
pub record IsFactTwice (text : List ℕ) (number : ℕ) : Type 0 where
  pub reached : AreFactsReadTo text number
  pub again : NumberedFact
  pub says : SaysFacts number reached.line (again ∷ [])
  pub there : Contains (subjects reached.facts) (subject_of again.fact)

-- the cause of a fault: it is that of the first line that is refused
abbrev pub AreFactsRefused : (text : List ℕ) → FactsFault → Type 0
AreFactsRefused text (Line n) = (r : AreFactsReadTo text n) × IsNoFactLine r.line
AreFactsRefused text (Twice n) = IsFactTwice text n
AreFactsRefused text NoMemory = Unit {0}
