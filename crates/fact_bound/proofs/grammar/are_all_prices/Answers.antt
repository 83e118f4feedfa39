use Rattle.std.proofs.Common.{rules, ◌≡◌, ℕ, List, get_or, sym, ap, ◌∙◌, subst, inl, inr, arith}
use Rattle.std.proofs.lemmas.Bool.{cases_lt}
use Rattle.std.proofs.lemmas.List.{get_or_default}
use Rattle.priced_cert.specs.declared.prices.Price.{Price}
use Rattle.priced_cert.specs.Prices.{ArePrices}
use Rattle.fact_bound.proofs.grammar.are_all_prices.Goals as goal

pub loop-i-preserved : goal.loop-i-preserved
loop-i-preserved c = λ k d lt.
    let ps = c.args.prices.now in
    let i = c.loop-i.i in
    elim (cases_lt k i) [
      | inl early ↦ c.loop-i.invariant k d early
      | inr late ↦
          let at : k ≡ i = omega arith in
          let item = c.index-prices-i.result in
          let same : get_or ps k d ≡ c.as_slice.result.now = ap (λ (j : ℕ). get_or ps j d) at ∙ get_or_default ps i d item c.loop-i-test.true ∙ sym c.index-prices-i.is ∙ sym c.as_slice.ensures in
          let here : ArePrices c.as_slice.result.now = search rules in
          let A : List Price → Type 0 = λ xs. ArePrices xs in
          subst A (sym same) here
    ]
