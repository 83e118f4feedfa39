use Rattle.analysis_commands.proofs.Needs.{given_ok, given_err}
use Rattle.analysis_commands.proofs.memory.given_by.Goals as goal

pub returns-in-Ok-clause-given : goal.returns-in-Ok-clause-given
returns-in-Ok-clause-given c = given_ok c.args.bounds.now c.args.sizes.now c.in-Ok.bounds c.lengths_behind.result c.in-Ok.ensures.read c.lengths_behind.ensures.given

pub returns-in-Ok-clause-bad : goal.returns-in-Ok-clause-bad
returns-in-Ok-clause-bad c = given_err c.args.bounds.now c.args.sizes.now c.in-Ok.bounds c.lengths_behind.result c.in-Ok.ensures.read c.lengths_behind.ensures.bad
