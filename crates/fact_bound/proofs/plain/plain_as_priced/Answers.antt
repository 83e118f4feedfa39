use Rattle.std.proofs.Common.{◌≡◌, ℕ, Option, sym, ap, ◌∙◌, subst}
use Rattle.priced_cert.specs.Certificate.{PricedCertificate}
use Rattle.bound_rules.specs.Conditions.{IsRight}
use Rattle.fact_rules.specs.Conditions.{IsPricedRight, MeetsPrices}
use Rattle.fact_rules.specs.Laws.{unpriced}
use Rattle.fact_bound.proofs.Unpricing.{unpriced_parts, closed}
use Rattle.fact_bound.proofs.plain.plain_as_priced.Goals as goal

is_unpriced : (c : goal.After-new-3) → c.new-3.result ≡ unpriced c.args.c c.with_callers_load-bound.result
is_unpriced c =
    unpriced_parts c.args.c c.new-3.result c.new.result c.new-2.result.items c.in_ok-prices.prices.items c.version-version.result c.root-root.result c.into_sections-sections.result.items
    c.with_callers_load-bound.result c.len.result c.new-3.ensures c.new.ensures c.version-version.ensures c.root-root.ensures c.into_sections-sections.ensures c.new-2.ensures.items c.in_ok-prices.ensures
    (c.len.ensures ∙ c.into_sections-sections.result.ok.0)

pub returns-clause-same : goal.returns-clause-same
returns-clause-same c =
    let bound = ap (λ (p : PricedCertificate). p.plain.bound) (is_unpriced c) in
    is_unpriced c ∙ ap (unpriced c.args.c) (sym bound)

pub returns-clause-met : goal.returns-clause-met
returns-clause-met c = λ P bound_of facts of empty meets.
    let cert = c.args.c in
    let bound = c.with_callers_load-bound.result in
    let R : Option ℕ → Type 0 = λ o. IsRight P c.args.t meets.full o in
    let right = c.with_callers_load-bound.ensures.right P meets.full of (subst R (sym c.bound.ensures) meets.right) in
    let L : ℕ → Type 0 = λ r. IsPricedRight P c.args.t r 0 meets.full bound in
    let M : PricedCertificate → Type 0 = λ p. MeetsPrices P c.args.t bound_of facts p in
    subst M (sym (is_unpriced c))
    (c.plain_is_priced.ensures P c.args.t bound_of facts cert bound (closed P cert.sections empty) meets (subst L c.root-root.ensures right))
