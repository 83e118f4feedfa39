use Rattle.std.proofs.Common.{◌≡◌, take, map}
use Rattle.class_making.specs.Plans.{field_in}
use Rattle.class_making.proofs.members.fields.Given as goal

abbrev pub invariant-loop-plan : goal.invariant-loop-plan
invariant-loop-plan l = l.fields.items ≡ map (field_in l.maker) (take l.plan-index l.plans)
