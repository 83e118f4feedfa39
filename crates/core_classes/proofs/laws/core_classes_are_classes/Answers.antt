use Rattle.core_classes.proofs.CoreLaws.{core_are_classes}
use Rattle.core_classes.proofs.laws.core_classes_are_classes.Goals as goal

pub returns : goal.returns
returns c = core_are_classes c.items_are_few.ensures c.plans_are_classes.ensures
