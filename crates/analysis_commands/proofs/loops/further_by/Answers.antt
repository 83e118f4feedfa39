use Rattle.analysis_commands.proofs.FurtherLines.{further_ok}
use Rattle.analysis_commands.proofs.loops.further_by.Goals as goal

pub returns : goal.returns
returns c =
    further_ok c.args.flow.now c.args.program.now c.in_ok-sites.sites.constants c.in_ok-tables.tables.items c.deref.result.now c.find_further.result
    c.in_ok-sites.ensures.constants c.in_ok-tables.ensures c.deref.ensures.value c.find_further.ensures
