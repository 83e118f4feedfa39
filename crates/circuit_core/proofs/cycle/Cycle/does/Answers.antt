use Rattle.circuit_build.proofs.Steps.{next, so}
use Rattle.circuit_core.proofs.cycle.Cycle.does.Goals as goal
use Rattle.circuit_cycles.specs.Words.{is}
use Rattle.circuit_cycles.specs.Core.{runs}
use Rattle.circuit_core.proofs.Choosing.{both}

pub returns-clause-gives : goal.returns-clause-gives
returns-clause-gives c =
    so (next c.is-is.ensures.gives c.and.ensures.gives)
    (λ ws f n core s.
    both (runs core) (is c.args.code core.word) f.1 s.runs (f.0 core.word s.word))
