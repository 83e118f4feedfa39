use Rattle.std.proofs.Common.{◌≡◌, take, map}
use Rattle.class_making.specs.Plans.{method_in}
use Rattle.class_making.proofs.members.methods.Given as goal

abbrev pub invariant-loop-plan : goal.invariant-loop-plan
invariant-loop-plan l = l.methods.items ≡ map (method_in l.maker) (take l.plan-index l.plans)
