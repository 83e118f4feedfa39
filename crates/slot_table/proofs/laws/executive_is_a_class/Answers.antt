use Rattle.slot_table.proofs.Plans.{is_class}
use Rattle.slot_table.proofs.laws.executive_is_a_class.Goals as goal

pub returns : goal.returns
returns c = is_class c.items_are_few.ensures c.plans_are_classes.ensures c.plans_have_bytes.ensures c.classes_say_plans.ensures
