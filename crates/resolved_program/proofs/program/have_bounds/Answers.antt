use Rattle.resolved_program.specs.Resolved.{AreResolved}
use Rattle.resolved_program.proofs.BoundLemmas.{bounds}
use Rattle.resolved_program.proofs.program.have_bounds.Goals as goal

pub returns : goal.returns
unfolding AreResolved
returns c = bounds c.methods_have_code.ensures c.args.classes.now c.requires.grammar
