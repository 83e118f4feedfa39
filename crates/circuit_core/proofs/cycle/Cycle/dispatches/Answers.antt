use Rattle.circuit_build.proofs.Steps.{so}
use Rattle.circuit_core.proofs.cycle.Cycle.dispatches.Goals as goal
use Rattle.circuit_cycles.specs.Words.{has_nxt}
use Rattle.circuit_cycles.specs.Core.{runs}
use Rattle.circuit_core.proofs.Choosing.{both}

pub returns-clause-gives : goal.returns-clause-gives
returns-clause-gives c =
    so c.and.ensures.gives
    (λ ws f n core s.
    both (runs core) (has_nxt core.word) f s.runs s.word.nxt)
