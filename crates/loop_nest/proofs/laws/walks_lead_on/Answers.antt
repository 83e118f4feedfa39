use Rattle.loop_nest.proofs.Around.{leads_around}
use Rattle.loop_nest.proofs.WalkParts.{comes_by, leads_on}
use Rattle.loop_nest.proofs.laws.walks_lead_on.Goals as goal

pub returns-clause-leads_on : goal.returns-clause-leads_on
returns-clause-leads_on c = λ g u v x ns t has. leads_on x t has

pub returns-clause-comes_by : goal.returns-clause-comes_by
returns-clause-comes_by c = λ g u w ns t other. let r = comes_by t other in (r.0, r.1, leads_around r.2)
