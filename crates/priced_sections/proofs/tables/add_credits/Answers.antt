use Rattle.std.proofs.Common.{List, subst, arith}
use Rattle.std.proofs.lemmas.List.{take_all}
use Rattle.priced_sections.specs.Prices.{PricedFact}
use Rattle.priced_sections.proofs.Adding.{CreditsAdded, credits_none, credits_more}
use Rattle.priced_sections.proofs.tables.add_credits.Goals as goal

pub add_credit-requires : goal.add_credit-requires
add_credit-requires c = record {
  room = λ u.
      let lt = c.loop-fact-test.true in
      let few = c.requires.facts in
      omega (arith, c.requires.room u, c.loop-fact.invariant.0.few u);
}

pub loop-fact-init : goal.loop-fact-init
loop-fact-init c = (credits_none c.args.credits.now, omega arith)

pub loop-fact-preserved : goal.loop-fact-preserved
loop-fact-preserved c =
    let lt = c.loop-fact-test.true in (
      credits_more c.args.facts.now c.loop-fact.fact-index c.fact-item.result c.args.credits.now c.loop-fact.credits c.add_credit.new.credits c.loop-fact-test.true c.fact-item.is c.loop-fact.invariant.0
          c.add_credit.ensures.long c.add_credit.ensures.each c.add_credit.ensures.few,
      omega arith,
    )

pub returns-clause-each : goal.returns-clause-each
returns-clause-each c =
    let P : List PricedFact → Type 0 = λ fs. CreditsAdded fs c.loop-fact.fact-index c.args.credits.now c.loop-fact.credits in
    (subst P (take_all c.loop-fact.fact-index c.args.facts.now c.loop-fact-test.false) c.loop-fact.invariant.0).each

pub returns-clause-few : goal.returns-clause-few
returns-clause-few c = λ u.
    let short = c.requires.facts in
    let end = c.loop-fact.invariant.1 in
    omega (arith, c.loop-fact.invariant.0.few u)
