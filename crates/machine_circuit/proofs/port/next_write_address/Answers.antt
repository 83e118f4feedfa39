use Rattle.circuit_build.proofs.Steps.{next, so}
use Rattle.machine_circuit.proofs.port.next_write_address.Goals as goal
use Rattle.circuit_cycles.specs.Words.{stmwa}
use Rattle.circuit_cycles.specs.Core.{does}
use Rattle.circuit_core.proofs.Choosing.{chosen}

pub returns-clause-gives : goal.returns-clause-gives
returns-clause-gives c =
    so (next c.does-addresses.ensures.gives c.choose.ensures.gives)
    (λ ws f n core s.
    chosen (does stmwa core) f.1 (f.0 n core s) s.registers.machine.a s.registers.port.write_address)
