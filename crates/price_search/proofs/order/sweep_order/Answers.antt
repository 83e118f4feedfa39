use Rattle.price_search.proofs.Sources.{forward_long, back_long}
use Rattle.price_search.proofs.order.sweep_order.Goals as goal

pub returns-in-Some-clause-forward : goal.returns-in-Some-clause-forward
returns-in-Some-clause-forward c =
    forward_long c.args.g.now c.args.nest.now c.args.costs.now c.args.bounds.now c.args.loads.now c.in_ok-found.field-0 c.in-Some.found c.in-Some.is c.in_ok-found.ensures.measured

pub returns-in-Some-clause-back : goal.returns-in-Some-clause-back
returns-in-Some-clause-back c =
    back_long c.args.g.now c.args.nest.now c.args.costs.now c.args.bounds.now c.args.loads.now c.in_ok-found.field-0 c.in-Some.found c.in-Some.is c.in_ok-found.ensures.measured
