use Rattle.std.proofs.Common.{length, ap, arith}
use Rattle.class_making.specs.declared.plan.ClassPlan.{ClassPlan}
use Rattle.class_making.specs.Plans.{items_of}
use Rattle.work_gen.proofs.WorkLaws.{work_room}
use Rattle.work_gen.proofs.class.make.Goals as goal

pub made-requires : goal.made-requires
made-requires c =
    omega (arith, work_room c.items_are_few.ensures c.args.n c.requires.some c.requires.few, ap (λ (p : ClassPlan). length (items_of p)) c.in_ok-plan.ensures)
