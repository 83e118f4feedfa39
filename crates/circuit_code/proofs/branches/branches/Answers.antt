use Rattle.circuit_build.proofs.Steps.{next, so}
use Rattle.circuit_code.proofs.branches.branches.Goals as goal
use Rattle.std.specs.Prelude.{◌&&◌}
use Rattle.base.specs.Signed.{holds}
use Rattle.circuit_cycles.specs.Words.{jbg, jbr}
use Rattle.circuit_cycles.specs.Core.{does}
use Rattle.circuit_core.proofs.Choosing.{both, either}

pub returns-clause-gives : goal.returns-clause-gives
returns-clause-gives c =
    so (next (next (next (next c.holds-holds.ensures.gives c.does-is_conditional.ensures.gives) c.and-is_taken.ensures.gives) c.does-is_goto.ensures.gives) c.or.ensures.gives)
    (λ ws f n core s.
    either (does jbg core) (does jbr core && holds core.opcode core.b core.a) f.1 (f.0.1 n core s) (both (does jbr core) (holds core.opcode core.b core.a) f.0.0.1 (f.0.0.0.1 n core s) (f.0.0.0.0 n core s)))
