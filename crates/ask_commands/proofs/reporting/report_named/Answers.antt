use Rattle.bound_causes.specs.Naming.{IsNamedBy}
use Rattle.analysis_commands.proofs.Bounding.{too_large}
use Rattle.ask_commands.proofs.Reported.{reported}
use Rattle.ask_commands.proofs.reporting.report_named.Goals as goal

pub report_asked-requires-clause-ready : goal.report_asked-requires-clause-ready
report_asked-requires-clause-ready c = record { ready = c.in-Ok.ensures.asked.ready; known = c.in-Ok.ensures.asked.known }

pub returns-in-Ok-clause-report : goal.returns-in-Ok-clause-report
returns-in-Ok-clause-report c =
    reported c.args.analysis.now (IsNamedBy c.args.analysis.now.flow c.args.name.now) c.in-Ok.found c.report_asked.result c.in-Ok.ensures.asked c.report_asked.ensures.report

pub returns-in-Ok-clause-cause : goal.returns-in-Ok-clause-cause
returns-in-Ok-clause-cause c =
    too_large c.args.analysis.now (IsNamedBy c.args.analysis.now.flow c.args.name.now) c.in-Ok.found c.report_asked.result c.in-Ok.ensures.asked c.report_asked.ensures.cause
