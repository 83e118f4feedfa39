use Rattle.std.proofs.Common.{arith}
use Rattle.core_classes.proofs.CoreLaws.{core_room}
use Rattle.core_classes.proofs.table.classes_of.Goals as goal

pub made-requires : goal.made-requires
made-requires c = core_room c.items_are_few.ensures c.args.plans.now c.loop-plan.plan-index c.plan-item.result c.requires (omega arith) c.plan-item.is
