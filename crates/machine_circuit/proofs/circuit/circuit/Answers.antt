use Rattle.machine_circuit.proofs.Made.{made}
use Rattle.machine_circuit.proofs.circuit.circuit.Goals as goal

pub returns : goal.returns
returns c = made _ _ _ c.finish.result c.finish.ensures
