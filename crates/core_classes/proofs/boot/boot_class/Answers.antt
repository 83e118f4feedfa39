use Rattle.std.proofs.Common.{length, ap, arith}
use Rattle.class_making.specs.declared.plan.ClassPlan.{ClassPlan}
use Rattle.class_making.specs.Plans.{items_of}
use Rattle.core_classes.proofs.BootLaws.{boot_room}
use Rattle.core_classes.proofs.boot.boot_class.Goals as goal

pub made-requires : goal.made-requires
made-requires c =
    omega (arith, boot_room c.items_are_few.ensures c.args.calls.now c.args.main.now c.requires, ap (λ (p : ClassPlan). length (items_of p)) c.in_ok-plan.ensures)
