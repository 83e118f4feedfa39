use Rattle.program_tables.specs.Resolved.{resolved}
use Rattle.node_costs.specs.Costs as table
use Rattle.analysis_commands.specs.Answers.{table_name}
use Rattle.analysis_commands.proofs.Needs.{not_met}
use Rattle.analysis_commands.proofs.memory.need_by.Goals as goal

pub returns-in-Ok-need-clause-need : goal.returns-in-Ok-need-clause-need
returns-in-Ok-need-clause-need c = c.in-Ok-need.ensures.need (resolved c.args.program.now) c.requires c.in-Ok.ensures.sites

pub returns-clause-fault : goal.returns-clause-fault
returns-clause-fault c =
    let P = resolved c.args.program.now in
    let f = c.args.flow.now in
    not_met P (table.bounds_of f c.args.given.now.bounds) (table.bounds_of f c.args.given.now.lengths) (table_name f) c.in-Err.fault c.no_need.result (c.in-Err.ensures.cause P c.requires c.in-Ok.ensures.sites) c.no_need.ensures
