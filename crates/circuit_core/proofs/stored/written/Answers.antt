use Rattle.circuit_build.proofs.Steps.{so}
use Rattle.circuit_core.proofs.stored.written.Goals as goal
use Rattle.circuit_cycles.specs.Core.{pushes}
use Rattle.circuit_core.proofs.Choosing.{chosen}

pub returns-clause-gives : goal.returns-clause-gives
returns-clause-gives c =
    so c.choose.ensures.gives
    (λ ws f n core s.
    chosen (pushes core) f s.pushes s.registers.machine.b s.registers.machine.a)
