use Rattle.analysis_commands.proofs.PricedBounding.{bound_with_ok, not_priced_err}
use Rattle.analysis_commands.proofs.priced_bound.bound_program_with.Goals as goal

pub returns-in-Ok-clause-bound : goal.returns-in-Ok-clause-bound
returns-in-Ok-clause-bound c =
    bound_with_ok c.args.program.now c.args.settings.now c.args.bounds.now c.in-Ok.analysis c.in-Ok.ensures.analysis c.args.facts.now c.args.name.now c.text_by.result c.text_by.ensures.text

pub returns-in-Ok-clause-refused : goal.returns-in-Ok-clause-refused
returns-in-Ok-clause-refused c =
    not_priced_err c.args.program.now c.args.settings.now c.args.bounds.now c.in-Ok.analysis c.in-Ok.ensures.analysis c.args.facts.now c.args.name.now c.text_by.result c.text_by.ensures.refused
