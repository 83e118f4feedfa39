use Rattle.analysis_commands.proofs.FurtherLines.{further_lines_by_ok}
use Rattle.analysis_commands.proofs.loops.further_lines_by.Goals as goal

pub returns : goal.returns
returns c =
    further_lines_by_ok c.args.flow.now c.args.program.now c.in_ok-found.found.items c.deref.result.now c.lines_of.result c.in_ok-found.ensures c.deref.ensures.value
    c.lines_of.ensures
