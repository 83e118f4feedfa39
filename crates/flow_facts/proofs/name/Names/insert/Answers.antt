use Rattle.std.proofs.Common.{List, ℕ, subst, rules}
use Rattle.flow_facts.specs.Adding.{AddsNew}
use Rattle.flow_facts.specs.contracts.name.NamePartialEq.TheImpl.{eq-value}
use Rattle.flow_facts.proofs.AddingLemmas.{added}
use Rattle.flow_facts.proofs.name.Names.insert.Goals as goal

pub returns : goal.returns
returns c =
    subst (λ (ks : List (List ℕ)). AddsNew ks c.args.name c.insert.new.self.keys c.in_ok-insert.field-0) c.self.view_is
    (added eq-value.it (λ a b. search rules) c.self.inside.names.keys c.insert.new.self.keys c.args.name c.in_ok-insert.field-0 c.in_ok-insert.ensures.keys c.in_ok-insert.ensures.added)
