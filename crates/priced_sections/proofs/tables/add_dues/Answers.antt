use Rattle.std.proofs.Common.{List, subst, arith}
use Rattle.std.proofs.lemmas.List.{take_all}
use Rattle.priced_sections.specs.Prices.{PricedFact}
use Rattle.priced_sections.proofs.Adding.{DuesAdded, dues_none, dues_more}
use Rattle.priced_sections.proofs.tables.add_dues.Goals as goal

pub add_due-requires-clause-room : goal.add_due-requires-clause-room
add_due-requires-clause-room c = λ i.
    let lt = c.loop-fact-test.true in
    let few = c.requires.facts in
    omega (arith, c.requires.room i, c.loop-fact.invariant.0.few i)

pub loop-fact-init : goal.loop-fact-init
loop-fact-init c = (dues_none c.args.loops.now c.args.fees.now, omega arith)

pub loop-fact-preserved : goal.loop-fact-preserved
loop-fact-preserved c =
    let lt = c.loop-fact-test.true in (
      dues_more c.args.loops.now c.args.facts.now c.loop-fact.fact-index c.fact-item.result c.args.fees.now c.loop-fact.fees c.add_due.new.fees c.loop-fact-test.true c.fact-item.is c.loop-fact.invariant.0
          c.add_due.ensures.long c.add_due.ensures.each c.add_due.ensures.few,
      omega arith,
    )

pub returns-clause-each : goal.returns-clause-each
returns-clause-each c =
    let P : List PricedFact → Type 0 = λ fs. DuesAdded c.args.loops.now fs c.loop-fact.fact-index c.args.fees.now c.loop-fact.fees in
    (subst P (take_all c.loop-fact.fact-index c.args.facts.now c.loop-fact-test.false) c.loop-fact.invariant.0).each

pub returns-clause-few : goal.returns-clause-few
returns-clause-few c = λ i.
    let few = c.requires.facts in
    let end = c.loop-fact.invariant.1 in
    omega (arith, c.loop-fact.invariant.0.few i)
