use Rattle.analysis_commands.proofs.FurtherLines.{tables_ok}
use Rattle.analysis_commands.proofs.loops.further_tables.Goals as goal

pub returns : goal.returns
returns c =
    tables_ok c.args.program.now c.args.flow.now c.args.sites.now c.requires c.known_fields_are_apart.ensures.apart c.in_ok-by_constants.by_constants.items
    c.deref.result.now c.deref.ensures.value c.in_ok-arrays.arrays c.in_ok-read.read.items c.deref-2.result.now c.deref-2.ensures.value c.in_ok-by_constants.ensures
    c.in_ok-arrays.ensures c.in_ok-read.ensures c.known_tables.result c.known_tables.ensures
