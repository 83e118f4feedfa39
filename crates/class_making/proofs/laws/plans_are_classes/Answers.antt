use Rattle.class_making.proofs.PlanLaws.{is_class}
use Rattle.class_making.proofs.laws.plans_are_classes.Goals as goal

pub returns : goal.returns
returns c = is_class
