use Rattle.core_classes.proofs.SaysLaws.{core_says}
use Rattle.core_classes.proofs.laws.core_says_plans.Goals as goal

pub returns : goal.returns
returns c = core_says c.items_are_few.ensures c.classes_say_plans.ensures
