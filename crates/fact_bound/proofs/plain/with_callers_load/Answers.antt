use Rattle.std.proofs.Common.{◌≡◌, ℕ, ◌-◌, Option, sym, ap, ◌∙◌, subst}
use Rattle.std.specs.Prelude.{option_map}
use Rattle.fact_rules.specs.Conditions.{IsPricedRight}
use Rattle.fact_bound.proofs.Callers.{right_for_callers}
use Rattle.fact_bound.proofs.plain.with_callers_load.Goals as goal

pub returns-clause-right : goal.returns-clause-right
returns-clause-right c = λ P full of right.
    let any = c.greatest_load-any.result in
    let back = c.callers_load-callers.result in
    let less = ap (λ (k : ℕ). option_map (λ n. n - k) c.args.bound) c.saturating_sub.ensures in
    let is : c.lessened.result ≡ option_map (λ n. n - (any - back)) c.args.bound = c.lessened.ensures ∙ less in
    let R : Option ℕ → Type 0 = λ o. IsPricedRight P c.args.t c.args.root 0 full o in
    subst R (sym is)
    (right_for_callers P c.args.t c.args.root any back full c.args.bound (c.greatest_load-any.ensures.greatest P of) (c.callers_load-callers.ensures.greatest P of) right)
