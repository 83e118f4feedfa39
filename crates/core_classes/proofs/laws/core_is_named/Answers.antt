use Rattle.core_classes.proofs.SaysLaws.{core_named}
use Rattle.core_classes.proofs.laws.core_is_named.Goals as goal

pub returns : goal.returns
returns c = core_named c.items_are_few.ensures c.classes_say_plans.ensures
