use Rattle.class_making.proofs.PlanLaws.{have_entries}
use Rattle.class_making.proofs.laws.plans_have_entries.Goals as goal

pub returns : goal.returns
returns c = have_entries
