use Rattle.jop_core.proofs.StepTable.{step_means, step_has_target}
use Rattle.jop_core.proofs.steps.step_at.Goals as goal

pub returns-clause-micro : goal.returns-clause-micro
returns-clause-micro c = step_means c.args.address c.step_among.result.now c.step_among.ensures

pub returns-clause-target : goal.returns-clause-target
returns-clause-target c = step_has_target c.args.address c.step_among.result.now c.step_among.ensures
