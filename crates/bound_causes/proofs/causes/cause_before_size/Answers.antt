use Rattle.node_costs.specs.Costs.{bounds_of}
use Rattle.call_regions.proofs.Sorting.{if_err}
use Rattle.bound_causes.specs.Naming.{IsNamedBy}
use Rattle.bound_causes.proofs.Telling.{cause_of}
use Rattle.bound_causes.proofs.causes.cause_before_size.Goals as goal

pub returns-in-Some-clause-cause : goal.returns-in-Some-clause-cause
returns-in-Some-clause-cause c =
    let f = c.args.f.now in
    if_err c.cause_of_root.result _ _ (λ e is P t flow. cause_of P (bounds_of f c.args.b.now) c.in-Some.root t (IsNamedBy f c.args.name.now) (c.in-Some.ensures.asked P flow).0 e (is P flow)) c.cause_of_root.ensures.cause
