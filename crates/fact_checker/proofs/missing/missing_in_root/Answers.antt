use Rattle.std.proofs.Common.{◌≡◌, ℕ, get_or, sym, ap₂, ◌∙◌}
use Rattle.std.specs.Prelude.{option_map}
use Rattle.std.proofs.lemmas.List.{get_or_default}
use Rattle.flow_facts.specs.Facts.{Facts}
use Rattle.priced_cert.specs.declared.prices.RootPrice.{RootPrice}
use Rattle.fact_rules.specs.Pricing.{fact_at, is_in_root, placed_in_root, root_fact_of}
use Rattle.fact_checker.proofs.Finding.{no_prices, no_fact, some_fact, of_facts_more, first_here, of_facts_all}
use Rattle.fact_checker.proofs.missing.missing_in_root.Goals as goal

abbrev none : RootPrice
none = record { method = 0; node = 0; price = 0 }

pub loop-price-init : goal.loop-price-init
loop-price-init c = λ q facts root. no_prices

pub loop-price-preserved : goal.loop-price-preserved
loop-price-preserved c =
    λ q facts root.
    let x : RootPrice = get_or c.args.prices.now c.loop-price.price-index none in
    let found : c.most_in_root.result ≡ option_map (λ f. f.most) (root_fact_of q x) =
    c.most_in_root.ensures ∙ ap₂ (λ (F : Facts) (r : ℕ). option_map (λ f. f.most) (fact_at F.counts x.method x.node (is_in_root r))) (sym facts) (sym root)
    in
    of_facts_more (placed_in_root q) c.args.prices.now c.loop-price.price-index x c.loop-price-test.true (get_or_default c.args.prices.now c.loop-price.price-index none x c.loop-price-test.true) (c.loop-price.invariant q facts root) (some_fact c.most_in_root.result (root_fact_of q x) found c.if-is_none.ensures)

pub returns-then-is_none : goal.returns-then-is_none
returns-then-is_none c =
    λ q facts root.
    let x : RootPrice = get_or c.args.prices.now c.loop-price.price-index none in
    let found : c.most_in_root.result ≡ option_map (λ f. f.most) (root_fact_of q x) =
    c.most_in_root.ensures ∙ ap₂ (λ (F : Facts) (r : ℕ). option_map (λ f. f.most) (fact_at F.counts x.method x.node (is_in_root r))) (sym facts) (sym root)
    in
    first_here (placed_in_root q) c.args.prices.now c.loop-price.price-index x c.loop-price-test.true (get_or_default c.args.prices.now c.loop-price.price-index none x c.loop-price-test.true) (c.loop-price.invariant q facts root) (no_fact c.most_in_root.result (root_fact_of q x) found c.if-is_none.ensures)

pub returns : goal.returns
returns c = λ q facts root. of_facts_all (placed_in_root q) c.args.prices.now c.loop-price.price-index c.loop-price-test.false (c.loop-price.invariant q facts root)
