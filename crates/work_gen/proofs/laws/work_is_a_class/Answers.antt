use Rattle.work_gen.proofs.WorkLaws.{work_is_class}
use Rattle.work_gen.proofs.laws.work_is_a_class.Goals as goal

pub returns : goal.returns
returns c = work_is_class c.items_are_few.ensures c.plans_are_classes.ensures c.plans_have_bytes.ensures c.classes_say_plans.ensures
