use Rattle.analysis_commands.proofs.Bounding.{number_ok, refused_err}
use Rattle.analysis_commands.proofs.bound.bound_number.Goals as goal

pub returns-in-Ok-clause-bound : goal.returns-in-Ok-clause-bound
returns-in-Ok-clause-bound c = number_ok c.args.program.now c.args.settings.now c.args.bounds.now c.in-Ok.analysis c.in-Ok.ensures.analysis c.args.name.now c.number_of.result c.number_of.ensures.bound

pub returns-in-Ok-clause-refused : goal.returns-in-Ok-clause-refused
returns-in-Ok-clause-refused c = refused_err c.args.program.now c.args.settings.now c.args.bounds.now c.in-Ok.analysis c.in-Ok.ensures.analysis c.args.name.now c.number_of.result c.number_of.ensures.refused
