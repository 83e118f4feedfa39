use Rattle.resolved_program.proofs.BoundLemmas.{bounds}
use Rattle.resolved_program.proofs.program.Program.is_within_bounds.Goals as goal

pub returns : goal.returns
returns c = bounds c.methods_have_code.ensures c.args.self.now c.is_resolved.ensures.grammar
