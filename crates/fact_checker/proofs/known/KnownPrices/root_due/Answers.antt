use Rattle.std.proofs.Common.{◌≡◌, ◌*◌, ◌<◌, ℕ, List, length, get_or, ap, ◌∙◌, subst, arith}
use Rattle.std.specs.Option.{option_map_or}
use Rattle.std.proofs.lemmas.List.{get_or_default}
use Rattle.flow_facts.specs.Facts.{Facts}
use Rattle.priced_cert.specs.declared.prices.RootPrice.{RootPrice}
use Rattle.fact_rules.specs.Pricing.{fact_at, is_in_root}
use Rattle.fact_checker.specs.Known.{GivenPrices, pricing}
use Rattle.fact_checker.proofs.Priced.{due_of, due_more}
use Rattle.fact_checker.proofs.known.KnownPrices.root_due.Goals as goal

abbrev none : RootPrice
none = record { method = 0; node = 0; price = 0 }

pub loop-price-preserved : goal.loop-price-preserved
loop-price-preserved c =
    let g = c.args.self.now in
    let q = pricing g in
    let i = c.loop-price.price-index in
    let xs = c.root_prices-price-items.result.now in
    let ys = g.certificate.root_prices in
    let list_is : xs ≡ ys = c.root_prices-price-items.ensures ∙ ap (λ (k : GivenPrices). k.certificate.root_prices) c.self.view_is in
    let D : Facts → ℕ → List RootPrice → ℕ = λ F r zs.
    (get_or zs i none).price * option_map_or (λ f. f.most) (fact_at F.counts (get_or zs i none).method (get_or zs i none).node (is_in_root r)) 0
    in
    let F = c.self.inside.index in
    let facts_are = ap (λ (k : GivenPrices). D k.facts c.root-root.result xs) c.self.view_is in
    let here : c.due-sum.result ≡ due_of q (get_or ys i none) =
    c.due-sum.ensures.value ∙ (facts_are ∙ (ap (λ (r : ℕ). D g.facts r xs) c.root-root.ensures ∙ ap (λ (zs : List RootPrice). D g.facts g.certificate.plain.root zs) list_is))
    in
    let B : List RootPrice → Type 0 = λ zs. i < length zs in
    let below : i < length ys = subst B list_is c.loop-price-test.true in
    let so_far = c.loop-price.invariant.small in
    let small = c.due-sum.ensures.small in
    record {
      is = due_more q ys i (get_or ys i none) c.loop-price.sum c.due-sum.result below (get_or_default ys i none (get_or ys i none) below) c.loop-price.invariant.is here;
      small = omega arith;
    }
