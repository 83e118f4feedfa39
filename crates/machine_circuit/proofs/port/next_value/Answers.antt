use Rattle.circuit_build.proofs.Steps.{next, so}
use Rattle.machine_circuit.proofs.port.next_value.Goals as goal
use Rattle.std.proofs.Common.{ap}
use Rattle.netlist.specs.Meaning.{word_on}
use Rattle.circuit_core.proofs.Choosing.{decided}

pub returns-clause-gives : goal.returns-clause-gives
returns-clause-gives c =
    so (next c.choose-read.ensures.gives c.choose.ensures.gives)
    (λ ws f n core s.
    decided f.1 s.registers.port.reading (decided f.0 s.registers.port.within s.registers.read_outs.main (ap (λ x. word_on ws x) c.constant.ensures)) s.registers.port.value)
