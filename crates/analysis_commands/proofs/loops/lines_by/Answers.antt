use Rattle.program_tables.specs.Resolved.{resolved}
use Rattle.analysis_commands.proofs.LoopLines.{found_ok}
use Rattle.analysis_commands.proofs.loops.lines_by.Goals as goal

pub returns : goal.returns
returns c =
    found_ok c.args.flow.now c.args.program.now c.in_ok-sites.sites.constants c.in_ok-found.found.items c.deref.result.now c.lines_of.result c.in_ok-sites.ensures.constants
    (λ flow. c.in_ok-found.ensures (resolved c.args.program.now) flow c.in_ok-sites.ensures.sites) c.deref.ensures.value c.lines_of.ensures
