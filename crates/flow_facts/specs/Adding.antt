-- What one more of something adds: a name, a subject, a line.
use Rattle.std.specs.Prelude.{◌≡◌, ◌++◌, ◌∷◌, [], ℕ, List, Bool, true, false, Contains, Option, Some, None}
use Rattle.flow_facts.specs.declared.line.NumberedFact.{NumberedFact}
use Rattle.flow_facts.specs.declared.reading.FactsFault.{FactsFault}
use Rattle.flow_facts.specs.declared.reading.FactsFault.TheVariants.{Line, Twice, NoMemory}
use Rattle.flow_facts.specs.declared.reading.Reading.{Reading}
use Rattle.flow_facts.specs.Lines.{IsMethodName, IsNoFactLine, subject_of}
use Rattle.flow_facts.specs.Grammar.{SaysFacts, subjects, AreOfDifferentSubjects}

-- one that is so, where there is one
abbrev pub FindsOneThat : {X : Type 0} → (Is : X → Type 0) → Option X → Type 0
FindsOneThat Is (Some x) = Is x
FindsOneThat {X} Is None = (x : X) → ¬ Is x

-- what isn't among the others goes behind them, and is said to be new
abbrev pub AddsNew : {X : Type 0} → (old : List X) → X → (new : List X) → (is_new : Bool) → Type 0
AddsNew old x new true = (¬ Contains old x) × (new ≡ old ++ x ∷ [])
AddsNew old x new false = Contains old x × (new ≡ old)

-- a word goes behind the names as another one, where it is a name and none of them
abbrev pub AddsName : (old : List (List ℕ)) → (word : List ℕ) → (new : List (List ℕ)) → (goes : Bool) → Type 0
AddsName old word new true = IsMethodName word × (¬ Contains old word) × (new ≡ old ++ word ∷ [])
AddsName old word new false = IsMethodName word → Contains old word

-- the subjects that are kept are those of the facts, and differ
pub record IsReading (r : Reading) : Type 0 where
  pub kept : r.subjects.keys ≡ subjects r.facts.items
  pub different : AreOfDifferentSubjects r.facts.items

-- what the line says goes behind the facts
pub record AddsLine (number : ℕ) (line : List ℕ) (old new : List NumberedFact) : Type 0 where
  pub said : List NumberedFact
  pub says : SaysFacts number line said
  pub new_is : new ≡ old ++ said

-- why the line is refused behind these facts
abbrev pub RefusesLine : (number : ℕ) (line : List ℕ) → List NumberedFact → FactsFault → Type 0
RefusesLine number line facts (Line n) = (n ≡ number) × IsNoFactLine line
RefusesLine number line facts (Twice n) =
    (n ≡ number) × ((again : NumberedFact) × SaysFacts number line (again ∷ []) × Contains (subjects facts) (subject_of again.fact))
RefusesLine number line facts NoMemory = Unit {0}

-- the fact goes behind the others
abbrev pub AddsFact : (old : Reading) → NumberedFact → (new : Reading) → Type 0
AddsFact old fact new = IsReading new × (new.facts.items ≡ old.facts.items ++ fact ∷ [])
