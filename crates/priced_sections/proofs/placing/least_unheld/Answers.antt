use Rattle.std.proofs.Common.{ℕ, ◌+◌, Option, sym, subst}
use Rattle.section_check.specs.Least.{IsLeast}
use Rattle.priced_sections.specs.Views.{plain_in}
use Rattle.priced_sections.proofs.Unheld.{IsUnheldBelow, unheld_none, unheld_more, unheld_all}
use Rattle.priced_sections.proofs.placing.least_unheld.Goals as goal

pub loop-fact-init : goal.loop-fact-init
loop-fact-init c = λ h x. unheld_none (plain_in c.args.q.now) c.args.q.now.facts.now h x

pub loop-fact-preserved : goal.loop-fact-preserved
loop-fact-preserved c =
    let q = c.args.q.now in
    let i = c.loop-fact.fact-index in
    let P : Option ℕ → Type 0 = λ o. IsLeast (IsUnheldBelow (plain_in q) q.facts.now (i + 1)) o in
    subst P (sym c.lesser-least.ensures)
    (unheld_more (plain_in q) q.facts.now i c.fact-item.result c.loop-fact-test.true c.fact-item.is c.loop-fact.least c.unheld.result c.loop-fact.invariant c.unheld.ensures)

pub returns : goal.returns
returns c = unheld_all (plain_in c.args.q.now) c.args.q.now.facts.now c.loop-fact.fact-index c.loop-fact.least c.loop-fact-test.false c.loop-fact.invariant
