use Rattle.ask_commands.proofs.Reported.{report_for}
use Rattle.ask_commands.proofs.reporting.report_asked.Goals as goal

pub report-requires-clause-distinct : goal.report-requires-clause-distinct
report-requires-clause-distinct c = let p = c.requires.program in (c.requires.ready.ready p.0 p.1).order.methods.distinct

pub report-requires-clause-ready : goal.report-requires-clause-ready
report-requires-clause-ready c P of = let ready = c.requires.ready.ready P of in record { order = ready.order; reducible = ready.reducible; lines = ready.lines }

pub returns-clause-report : goal.returns-clause-report
returns-clause-report c = report_for c.args.analysis.now c.args.found.now.root c.report.result c.report.ensures.never c.report.ensures.printed c.report.ensures.parts
