use Rattle.class_making.proofs.PlanLaws.{has_bytes}
use Rattle.class_making.proofs.laws.plans_have_bytes.Goals as goal

pub returns : goal.returns
returns c = has_bytes
