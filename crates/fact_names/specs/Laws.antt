-- What follows of facts that lines say.
use Rattle.std.specs.Prelude.{◌≡◌, ℕ, List, ◌++◌, ◌∷◌, IsSome}
use Rattle.bytecode_model.specs.Program.{Program, body_of}
use Rattle.flow_facts.specs.declared.line.FactLine.{FactLine}
use Rattle.flow_facts.specs.Facts.{Facts}
use Rattle.fact_names.specs.Named.{MeanAll, IsNoFact}

-- two methods of one name are one
abbrev pub NamesAreOne : Program → (name_of : ℕ → List ℕ) → Type 0
NamesAreOne P name_of = (m n : ℕ) → IsSome (body_of P m) → IsSome (body_of P n) → name_of m ≡ name_of n → m ≡ n

-- Where no two methods have one name, lines have one list of facts.
abbrev pub MeaningsAreOne : Type 0
MeaningsAreOne = (P : Program) (name_of : ℕ → List ℕ) → NamesAreOne P name_of → (ls : List FactLine) (a b : Facts) → MeanAll P name_of ls a
    → MeanAll P name_of ls b → a ≡ b

-- Where lines have facts, none of them says nothing.
abbrev pub MeantIsNotRefused : Type 0
MeantIsNotRefused = (P : Program) (name_of : ℕ → List ℕ) (before : List FactLine) (l : FactLine) (after : List FactLine) (facts : Facts)
    → MeanAll P name_of (before ++ l ∷ after) facts → ¬ IsNoFact P name_of l
