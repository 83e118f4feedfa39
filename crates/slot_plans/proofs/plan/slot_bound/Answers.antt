use Rattle.slot_plans.proofs.Slotting.{slot_bound_ok, slot_bound_err, no_method}
use Rattle.slot_plans.proofs.plan.slot_bound.Goals as goal

pub returns-in-Some-clause-bound : goal.returns-in-Some-clause-bound
returns-in-Some-clause-bound c = slot_bound_ok c.args.analysis.now c.args.slot c.in-Some.method c.bound_of_method.result c.in-Some.ensures.method c.bound_of_method.ensures.bound

pub returns-in-Some-clause-refused : goal.returns-in-Some-clause-refused
returns-in-Some-clause-refused c s = slot_bound_err c.args.analysis.now c.args.slot c.in-Some.method s c.bound_of_method.result c.in-Some.ensures.method c.bound_of_method.ensures.refused

pub returns-in-None-clause-refused : goal.returns-in-None-clause-refused
returns-in-None-clause-refused c s = no_method c.args.analysis.now c.args.slot s c.new.result c.in-None.ensures.method c.new.ensures.items
