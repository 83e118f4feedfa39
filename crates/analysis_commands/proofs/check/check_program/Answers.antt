use Rattle.analysis_commands.proofs.Lifting.{held_ok, refused_err}
use Rattle.analysis_commands.proofs.check.check_program.Goals as goal

pub returns-in-Ok-clause-held : goal.returns-in-Ok-clause-held
returns-in-Ok-clause-held c =
    held_ok c.args.program.now c.args.settings.now c.args.bounds.now c.args.certificate.now c.in-Ok.analysis c.check_text.result c.in-Ok.ensures.analysis c.check_text.ensures.held

pub returns-in-Ok-clause-refused : goal.returns-in-Ok-clause-refused
returns-in-Ok-clause-refused c =
    refused_err c.args.program.now c.args.settings.now c.args.bounds.now c.args.certificate.now c.in-Ok.analysis c.check_text.result c.in-Ok.ensures.analysis c.check_text.ensures.refused
