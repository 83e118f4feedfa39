use Rattle.analysis_commands.proofs.PricedChecking.{held_with_ok, unheld_err}
use Rattle.analysis_commands.proofs.priced_check.check_program_with.Goals as goal

pub returns-in-Ok-clause-held : goal.returns-in-Ok-clause-held
returns-in-Ok-clause-held c =
    held_with_ok c.args.program.now c.args.settings.now c.args.bounds.now c.in-Ok.analysis c.in-Ok.ensures.analysis c.args.facts.now c.args.certificate.now c.check_text_by.result c.check_text_by.ensures.held

pub returns-in-Ok-clause-refused : goal.returns-in-Ok-clause-refused
returns-in-Ok-clause-refused c =
    unheld_err c.args.program.now c.args.settings.now c.args.bounds.now c.in-Ok.analysis c.in-Ok.ensures.analysis c.args.facts.now c.args.certificate.now c.check_text_by.result c.check_text_by.ensures.refused
