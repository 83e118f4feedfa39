-- What follows of texts of facts.
use Rattle.std.specs.Prelude.{◌≡◌, ℕ, List}
use Rattle.flow_facts.specs.declared.line.NumberedFact.{NumberedFact}
use Rattle.flow_facts.specs.declared.reading.FactsFault.{FactsFault}
use Rattle.flow_facts.specs.declared.reading.FactsFault.TheVariants.{NoMemory}
use Rattle.flow_facts.specs.Grammar.{AreFactsRead, AreFactsRefused}

-- A text gives one list of facts.
abbrev pub GivesOne : Type 0
GivesOne = (text : List ℕ) (a b : List NumberedFact) → AreFactsRead text a → AreFactsRead text b → a ≡ b

-- No line of a text that gives facts is refused.
abbrev pub ReadIsNotRefused : Type 0
ReadIsNotRefused = (text : List ℕ) (fs : List NumberedFact) (fault : FactsFault) → AreFactsRead text fs → AreFactsRefused text fault → fault ≡ NoMemory
