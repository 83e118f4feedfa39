use Rattle.program_tables.specs.Resolved.{resolved}
use Rattle.bound_causes.specs.Naming.{IsNamedBy}
use Rattle.ask_commands.proofs.Reported.{has_parts}
use Rattle.ask_commands.proofs.reporting.lines_by.Goals as goal

pub lines_of-requires : goal.lines_of-requires
lines_of-requires c =
    has_parts (resolved c.args.program.now) c.args.analysis.now (IsNamedBy c.args.analysis.now.flow c.args.name.now) c.in-Ok.report c.requires.flow c.in-Ok.ensures.report
