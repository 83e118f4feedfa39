use Rattle.std.proofs.Common.{ℕ, List, ◌∷◌, [], ◌++◌, get_or, sym, ap, ◌∙◌}
use Rattle.std.proofs.lemmas.List.{take_more, take_all}
use Rattle.bound_finder.proofs.costs.widened.Goals as goal

pub loop-cost-preserved : goal.loop-cost-preserved
loop-cost-preserved c =
    let own = c.args.own.now in
    let i = c.loop-cost.cost-index in
    c.in_ok-push.ensures.items ∙ ap (λ (costs : List ℕ). costs ++ get_or own i 0 ∷ []) c.loop-cost.invariant ∙ sym (take_more own i 0 c.loop-cost-test.true)

pub returns : goal.returns
returns c = c.loop-cost.invariant ∙ take_all c.loop-cost.cost-index c.args.own.now c.loop-cost-test.false
