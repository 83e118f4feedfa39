use Rattle.std.proofs.Common.{get_or, None}
use Rattle.std.proofs.lemmas.List.{get_or_default}
use Rattle.priced_cert.specs.declared.prices.Price.{Price}
use Rattle.fact_rules.specs.Pricing.{fact_of, placed_in}
use Rattle.fact_checker.proofs.Finding.{no_prices, no_fact, some_fact, of_facts_more, first_here, of_facts_all}
use Rattle.fact_checker.proofs.missing.missing_in_section.Goals as goal

abbrev none : Price
none = record { node = 0; header = None; price = 0 }

pub loop-price-init : goal.loop-price-init
loop-price-init c = no_prices

pub loop-price-preserved : goal.loop-price-preserved
loop-price-preserved c =
    let x : Price = get_or c.args.prices.now c.loop-price.price-index none in
    of_facts_more (placed_in c.args.index.now c.args.method) c.args.prices.now c.loop-price.price-index x c.loop-price-test.true (get_or_default c.args.prices.now c.loop-price.price-index none x c.loop-price-test.true) c.loop-price.invariant
    (some_fact c.most_in_section.result (fact_of c.args.index.now c.args.method x) c.most_in_section.ensures c.if-is_none.ensures)

pub returns-then-is_none : goal.returns-then-is_none
returns-then-is_none c =
    let x : Price = get_or c.args.prices.now c.loop-price.price-index none in
    first_here (placed_in c.args.index.now c.args.method) c.args.prices.now c.loop-price.price-index x c.loop-price-test.true (get_or_default c.args.prices.now c.loop-price.price-index none x c.loop-price-test.true) c.loop-price.invariant
    (no_fact c.most_in_section.result (fact_of c.args.index.now c.args.method x) c.most_in_section.ensures c.if-is_none.ensures)

pub returns : goal.returns
returns c = of_facts_all (placed_in c.args.index.now c.args.method) c.args.prices.now c.loop-price.price-index c.loop-price-test.false c.loop-price.invariant
