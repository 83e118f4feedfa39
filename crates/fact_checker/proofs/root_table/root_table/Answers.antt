use Rattle.std.proofs.Common.{◌≡◌, ◌+◌, List, [], length, get_or, take, refl, sym, ap, subst, arith}
use Rattle.std.specs.Vec.{with_items}
use Rattle.std.proofs.lemmas.List.{get_or_default, with_items_is}
use Rattle.priced_cert.specs.declared.prices.RootPrice.{RootPrice}
use Rattle.priced_sections.specs.Prices.{PricedFact}
use Rattle.fact_rules.specs.Pricing.{Pricing}
use Rattle.fact_checker.specs.RootTable.{AreRootFacts, AddsRootFact}
use Rattle.fact_checker.proofs.Priced.{root_start, root_more, root_all}
use Rattle.fact_checker.proofs.root_table.root_table.Goals as goal

abbrev none : RootPrice
none = record { method = 0; node = 0; price = 0 }

pub loop-price-init : goal.loop-price-init
loop-price-init c =
    let q : Pricing = record { facts = c.args.index.now; root = c.args.root; root_prices = [] } in
    root_start q c.args.methods c.in_ok-table.table.items c.in_ok-table.ensures

pub loop-price-preserved : goal.loop-price-preserved
loop-price-preserved c =
    let q : Pricing = record { facts = c.args.index.now; root = c.args.root; root_prices = c.args.prices.now } in
    let i = c.loop-price.price-index in
    let x : RootPrice = get_or c.args.prices.now i none in
    let table = c.loop-price.table in
    let new = c.add.new.table in
    let was = c.deref_mut.ensures.value in
    let adds = c.in_ok-add.ensures q refl refl in
    let ok = table.ok in
    let was_long = ap length was in
    let new_long = adds.long in
    let items : (with_items table new).items ≡ new = with_items_is table new (omega (arith, ok.0)) in
    let O : List (List PricedFact) → Type 0 = λ old. AddsRootFact q x old new in
    let N : List (List PricedFact) → Type 0 = λ ts. AreRootFacts (record { facts = c.args.index.now; root = c.args.root; root_prices = take (i + 1) c.args.prices.now }) c.args.methods ts in
    subst N (sym items)
    (root_more q c.args.methods c.args.prices.now i x table.items new c.loop-price-test.true (get_or_default c.args.prices.now i none x c.loop-price-test.true) c.loop-price.invariant (subst O was adds))

pub returns : goal.returns
returns c =
    let q : Pricing = record { facts = c.args.index.now; root = c.args.root; root_prices = c.args.prices.now } in
    root_all q c.args.methods c.args.prices.now c.loop-price.price-index c.loop-price.table.items c.loop-price-test.false c.loop-price.invariant
