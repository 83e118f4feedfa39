use Rattle.class_making.proofs.PlanLaws.{says_plan}
use Rattle.class_making.proofs.laws.classes_say_plans.Goals as goal

pub returns : goal.returns
returns c = says_plan
