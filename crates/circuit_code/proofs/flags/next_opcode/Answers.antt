use Rattle.circuit_build.proofs.Steps.{next, so}
use Rattle.circuit_code.proofs.flags.next_opcode.Goals as goal
use Rattle.circuit_cycles.specs.Core.{dispatches}
use Rattle.circuit_core.proofs.Choosing.{chosen}

pub returns-clause-gives : goal.returns-clause-gives
returns-clause-gives c =
    so (next c.dispatches-dispatches.ensures.gives c.choose.ensures.gives)
    (λ ws f n core s y.
    chosen (dispatches core) f.1 (f.0 n core s) y s.registers.machine.opcode)
