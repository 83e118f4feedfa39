use Rattle.circuit_build.proofs.Steps.{next, so}
use Rattle.circuit_core.proofs.operands.next_b.Goals as goal
use Rattle.circuit_cycles.specs.Core.{pops, pushes}
use Rattle.circuit_core.proofs.Choosing.{chosen}

pub returns-clause-gives : goal.returns-clause-gives
returns-clause-gives c =
    so (next c.choose-popped.ensures.gives c.choose.ensures.gives)
    (λ ws f n core s.
    chosen (pushes core) f.1 s.pushes s.registers.machine.a (chosen (pops core) f.0 s.pops s.below s.registers.machine.b))
