use Rattle.jop_cli.proofs.ExecutiveLaw.{executives_are_there}
use Rattle.jop_cli.proofs.PlanningLaw.{plans_are_answered, cycles_are_runs}
use Rattle.jop_cli.proofs.PlansKept.{cycles_are_shown}
use Rattle.jop_cli.proofs.laws.executives_are_answered.Goals as goal

pub returns-clause-there : goal.returns-clause-there
returns-clause-there c = executives_are_there c.main_is_there.ensures

pub returns-clause-plans : goal.returns-clause-plans
returns-clause-plans c = plans_are_answered c.gives_one.ensures c.read_is_not_refused.ensures

pub returns-clause-cycles : goal.returns-clause-cycles
returns-clause-cycles c = cycles_are_runs c.gives_one.ensures c.read_is_not_refused.ensures

pub returns-clause-shown : goal.returns-clause-shown
returns-clause-shown c = cycles_are_shown
