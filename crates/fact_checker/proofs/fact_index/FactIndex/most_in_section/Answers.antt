use Rattle.std.proofs.Common.{◌≡◌, None, sym, ap, ◌∙◌, rules}
use Rattle.std.specs.Prelude.{option_map}
use Rattle.flow_facts.specs.Facts.{CountFact}
use Rattle.fact_rules.specs.Pricing.{is_scope_of}
use Rattle.fact_checker.proofs.Indexing.{fact_never}
use Rattle.fact_checker.proofs.fact_index.FactIndex.most_in_section.Goals as goal

pub returns-in_err-scope_of : goal.returns-in_err-scope_of
returns-in_err-scope_of c =
    let none : c.from_residual.result ≡ None = search rules in
    none
    ∙ sym
    (ap (option_map (λ (f : CountFact). f.most)) (fact_never c.args.self.now.counts c.args.method c.args.price.node (is_scope_of c.args.price.header) (λ s. c.in_err-scope_of.ensures s)))
