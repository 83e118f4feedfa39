use Rattle.std.proofs.Common.{rules, arith}
use Rattle.fact_bound.specs.Grammar.{AreInGrammar}
use Rattle.fact_bound.proofs.InText.{made_in_grammar}
use Rattle.fact_bound.proofs.grammar.certificate_in_grammar.Goals as goal

pub returns : goal.returns
returns c =
    let h : AreInGrammar c.args.sections.items c.args.prices.items = search rules in
    made_in_grammar c.new-2.result c.new-plain.result c.new.result.items c.args.root c.args.sections.items c.args.prices.items c.args.bound c.new-2.ensures c.new-plain.ensures c.new.ensures.items
    (omega (arith, c.ranges.root.fits)) c.bound_value_of.ensures h
