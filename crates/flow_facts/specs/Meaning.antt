-- What a line is found to say.
use Rattle.std.specs.Prelude.{◌≢◌, ℕ, List, All, AllPairs}
use Rattle.bound_texts.specs.Loops.Lines.{IsSilent}
use Rattle.flow_facts.specs.declared.line_reader.Said.{Said}
use Rattle.flow_facts.specs.declared.line_reader.Said.TheVariants.{Nothing, Fact, Malformed}
use Rattle.flow_facts.specs.Lines.{IsMethodName, IsFactLine, IsNoFactLine}

abbrev pub IsSaidBy : (line : List ℕ) → Said → Type 0
IsSaidBy line Nothing = IsSilent line
IsSaidBy line (Fact fact) = IsFactLine line fact
IsSaidBy line Malformed = IsNoFactLine line

-- they are names, of which no two are the same
pub record AreNames (words : List (List ℕ)) : Type 0 where
  pub names : All IsMethodName words
  pub different : AllPairs (λ a b. a ≢ b) words
