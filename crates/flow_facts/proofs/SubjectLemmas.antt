-- The test of keys decides which subjects are the same.
use Rattle.std.proofs.Common.{◌≡◌, rules}
use Rattle.std.specs.Bool.{Decides}
use Rattle.flow_facts.specs.declared.line.NodeName.{NodeName}
use Rattle.flow_facts.specs.declared.line.SaidScope.{SaidScope}
use Rattle.flow_facts.specs.declared.line.Subject.{Subject}
use Rattle.flow_facts.specs.contracts.line.NodeNamePartialEq.TheImpl.{eq-value as node_test}
use Rattle.flow_facts.specs.contracts.line.SaidScopePartialEq.TheImpl.{eq-value as scope_test}
use Rattle.flow_facts.specs.contracts.line.SubjectPartialEq.TheImpl.{eq-value}

node_same : (a b : NodeName) → Decides (node_test.it a b) (a ≡ b)
node_same a b = search rules

scope_same : (a b : SaidScope) → Decides (scope_test.it a b) (a ≡ b)
scope_same a b = search rules

pub subject_same : (a b : Subject) → Decides (eq-value.it a b) (a ≡ b)
subject_same a b = search (rules, node_same, scope_same)
