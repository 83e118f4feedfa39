-- Worked examples of what lines say, over the sample program of graphs of methods: its method 3 is an invoke of method 2 and a return.
use Rattle.std.specs.Prelude.{ℕ, ◌+◌, List, [], ◌∷◌, codes}
use Rattle.method_flow.specs.Examples.{sample}
use Rattle.flow_facts.specs.declared.facts.Scope.{Scope}
use Rattle.flow_facts.specs.declared.facts.Scope.TheVariants.{Own, In}
use Rattle.flow_facts.specs.declared.line.FactLine.{FactLine}
use Rattle.flow_facts.specs.declared.line.FactLine.TheVariants.{Total, Only}
use Rattle.flow_facts.specs.declared.line.NodeName.{NodeName}
use Rattle.flow_facts.specs.declared.line.NodeName.TheVariants.{Instruction, RaiseStep}
use Rattle.flow_facts.specs.declared.line.SaidScope.{SaidScope}
use Rattle.flow_facts.specs.declared.line.SaidScope.TheVariants.{Alone, InMethod}
use Rattle.flow_facts.specs.Facts.{Facts}
use Rattle.fact_names.specs.Named.{Means, IsNoFact}

-- method 0 is A, method 1 is B, and so on
abbrev pub letter : (method : ℕ) → List ℕ
letter m = (65 + m) ∷ []

abbrev pub total : (name : List ℕ) → NodeName → (most : ℕ) → SaidScope → FactLine
total name node n scope = Total (record { name = name; node = node; most = n; scope = scope })

abbrev pub only : (name : List ℕ) → (place : ℕ) → (targets : List (List ℕ)) → FactLine
only name p targets = Only (record { name = name; place = p; targets = targets })

abbrev pub one_count : (method node most : ℕ) → Scope → Facts
one_count m u n scope = record { counts = record { method = m; nodes = u ∷ []; most = n; scope = scope } ∷ []; targets = [] }

abbrev pub one_choice : (method place : ℕ) → (targets : List ℕ) → Facts
one_choice m p ts = record { counts = []; targets = record { method = m; place = p; targets = ts } ∷ [] }

pub record NamedRows : Type 0 where
  pub own : Means sample letter (total (codes "D") (Instruction 0) 2 Alone) (one_count 3 0 2 Own)
  pub raise_step : Means sample letter (total (codes "D") (RaiseStep 0) 1 Alone) (one_count 3 1 1 Own)
  pub in_root : Means sample letter (total (codes "B") (Instruction 0) 1 (InMethod (codes "D"))) (one_count 1 0 1 (In 3))
  pub targets : Means sample letter (only (codes "D") 0 (codes "C" ∷ [])) (one_choice 3 0 (2 ∷ []))
  -- within an instruction nothing begins
  pub inside : IsNoFact sample letter (total (codes "D") (Instruction 1) 2 Alone)
  -- a load can't raise
  pub load : IsNoFact sample letter (total (codes "A") (RaiseStep 0) 1 Alone)
  -- a method of an interface has no code
  pub without_code : IsNoFact sample letter (total (codes "I") (Instruction 0) 1 Alone)
  -- the invoke doesn't run this one, and the return runs none
  pub other_target : IsNoFact sample letter (only (codes "D") 0 (codes "B" ∷ []))
  pub no_invoke : IsNoFact sample letter (only (codes "D") 3 (codes "C" ∷ []))
