use Rattle.std.proofs.Common.{◌≡◌, take, map}
use Rattle.class_making.specs.Plans.{class_of}
use Rattle.core_classes.proofs.table.classes_of.Given as goal

abbrev pub invariant-loop-plan : goal.invariant-loop-plan
invariant-loop-plan l = l.classes.items ≡ map class_of (take l.plan-index l.plans)
