use Rattle.core_classes.proofs.SaysLaws.{boot_says}
use Rattle.core_classes.proofs.laws.boot_says_plan.Goals as goal

pub returns : goal.returns
returns c = boot_says c.items_are_few.ensures c.classes_say_plans.ensures
