use Rattle.std.proofs.Common.{rules}
use Rattle.resolved_program.specs.Resolved.{AreResolved}
use Rattle.resolved_program.proofs.program.Program.is_resolved.Goals as goal

pub returns : goal.returns
unfolding AreResolved
returns c = search rules
