use Rattle.analysis_commands.proofs.Bounding.{bound_ok, refused_err}
use Rattle.analysis_commands.proofs.bound.bound_program.Goals as goal

pub returns-in-Ok-clause-bound : goal.returns-in-Ok-clause-bound
returns-in-Ok-clause-bound c = bound_ok c.args.program.now c.args.settings.now c.args.bounds.now c.in-Ok.analysis c.in-Ok.ensures.analysis c.args.name.now c.bound_text.result c.bound_text.ensures.text

pub returns-in-Ok-clause-refused : goal.returns-in-Ok-clause-refused
returns-in-Ok-clause-refused c = refused_err c.args.program.now c.args.settings.now c.args.bounds.now c.in-Ok.analysis c.in-Ok.ensures.analysis c.args.name.now c.bound_text.result c.bound_text.ensures.refused
