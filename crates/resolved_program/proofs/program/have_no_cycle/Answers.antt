use Rattle.resolved_program.specs.Resolved.{AreResolved}
use Rattle.resolved_program.proofs.program.have_no_cycle.Goals as goal

pub returns : goal.returns
unfolding AreResolved
returns c = c.requires.acyclic
