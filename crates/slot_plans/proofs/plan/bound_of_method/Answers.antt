use Rattle.slot_plans.proofs.Slotting.{bound_said}
use Rattle.slot_plans.proofs.plan.bound_of_method.Goals as goal

pub returns-in-Ok-clause-bound : goal.returns-in-Ok-clause-bound
returns-in-Ok-clause-bound c = bound_said c.args.analysis.now c.args.method c.in-Ok.certificate c.bound.result c.bound.ensures c.in-Ok.ensures.certificate
