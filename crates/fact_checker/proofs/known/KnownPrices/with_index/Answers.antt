use Rattle.std.proofs.Common.{List, length, ap, ◌∙◌, arith}
use Rattle.certificates.specs.Certificate.{Certificate}
use Rattle.priced_cert.specs.declared.prices.RootPrice.{RootPrice}
use Rattle.fact_checker.proofs.Priced.{root_at}
use Rattle.fact_checker.proofs.known.KnownPrices.with_index.Goals as goal

pub invariant_of-result : goal.invariant_of-result
invariant_of-result c =
    let prices = c.root_prices-prices.ensures in
    let long = ap (λ (xs : List RootPrice). length xs) prices in
    let root = c.root.ensures ∙ ap (λ (p : Certificate). p.root) c.plain.ensures in
    record {
      same = c.requires.same;
      facts_are = c.requires.facts;
      few = omega arith;
      root_facts_are = root_at c.args.index c.root.result c.args.certificate.now.plain.root c.args.methods c.root_prices-prices.result.now c.args.certificate.now.root_prices c.in_ok-in_root.in_root.items root prices
          c.in_ok-in_root.ensures;
    }
