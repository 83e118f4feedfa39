-- Facts: how often places of methods are visited at most, and which methods an invoke runs.
use Rattle.std.specs.Prelude.{ℕ, List, []}
use Rattle.flow_facts.specs.declared.facts.Scope.{Scope}

-- these nodes of the method are visited at most so often together
pub record CountFact : Type 0 where
  pub method : ℕ
  pub nodes : List ℕ
  pub most : ℕ
  pub scope : Scope

-- the invoke at the place of the method runs these methods alone
pub record TargetFact : Type 0 where
  pub method : ℕ
  pub place : ℕ
  pub targets : List ℕ

pub record Facts : Type 0 where
  pub counts : List CountFact
  pub targets : List TargetFact

abbrev pub no_facts : Facts
no_facts = record { counts = []; targets = [] }
