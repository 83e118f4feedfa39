use Rattle.machine_circuit.proofs.Made.{meant}
use Rattle.machine_circuit.proofs.circuit.bare_circuit_of.Goals as goal

pub returns : goal.returns
returns c = meant (λ n h. record { well_formed = h }) c.circuit.result c.circuit.ensures
