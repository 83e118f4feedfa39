use Rattle.std.proofs.Common.{subst}
use Rattle.fact_rules.specs.declared.faults.PricedFault.{PricedFault}
use Rattle.analysis_commands.specs.PricedChecks.{RefusesOf}
use Rattle.analysis_commands.proofs.PricedChecking.{no_price, failure}
use Rattle.analysis_commands.proofs.priced_check.fails.Goals as goal

pub returns-in-Price : goal.returns-in-Price
returns-in-Price c =
    let R : PricedFault → Type 0 = λ fault. RefusesOf c.args.analysis.now c.args.facts.now c.args.c.now fault in
    no_price c.args.analysis.now c.args.facts.now c.args.c.now c.in-Price.m c.in-Price.node c.without_fact.result (subst R c.in-Price.is c.requires) c.without_fact.ensures

pub returns-in-Check : goal.returns-in-Check
returns-in-Check c =
    let R : PricedFault → Type 0 = λ fault. RefusesOf c.args.analysis.now c.args.facts.now c.args.c.now fault in
    failure c.args.analysis.now c.args.facts.now c.args.c.now c.in-Check.fault c.failing.result (subst R c.in-Check.is c.requires) c.failing.ensures
