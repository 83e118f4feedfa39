use Rattle.std.proofs.Common.{List, ap, ◌∙◌, arith}
use Rattle.std.proofs.lemmas.List.{take_all}
use Rattle.priced_sections.specs.Prices.{PricedFact, own_due}
use Rattle.priced_sections.proofs.Adding.{own_more}
use Rattle.priced_sections.proofs.tables.own_dues.Goals as goal

pub overflow_add-due : goal.overflow_add-due
overflow_add-due c =
    let lt = c.loop-fact-test.true in
    let few = c.requires in
    omega (arith, c.loop-fact.invariant.1, c.due_in_all-due.ensures.small)

pub loop-fact-preserved : goal.loop-fact-preserved
loop-fact-preserved c =
    let more = own_more c.args.facts.now c.loop-fact.fact-index c.fact-item.result c.loop-fact-test.true c.fact-item.is in
    let lt = c.loop-fact-test.true in
    (omega (arith, c.loop-fact.invariant.0, more, c.due_in_all-due.ensures.value), omega (arith, c.loop-fact.invariant.1, c.due_in_all-due.ensures.small), omega arith)

pub returns-clause-value : goal.returns-clause-value
returns-clause-value c = c.loop-fact.invariant.0 ∙ ap (λ (fs : List PricedFact). own_due fs) (take_all c.loop-fact.fact-index c.args.facts.now c.loop-fact-test.false)

pub returns-clause-small : goal.returns-clause-small
returns-clause-small c =
    let same = c.loop-fact.invariant.0 ∙ ap (λ (fs : List PricedFact). own_due fs) (take_all c.loop-fact.fact-index c.args.facts.now c.loop-fact-test.false) in
    let few = c.requires in
    let end = c.loop-fact.invariant.2 in
    omega (arith, c.loop-fact.invariant.1)
