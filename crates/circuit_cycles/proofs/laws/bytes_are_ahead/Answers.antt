use Rattle.circuit_cycles.proofs.Ahead.{byte_ahead}
use Rattle.circuit_cycles.proofs.laws.bytes_are_ahead.Goals as goal

pub returns : goal.returns
returns c = λ shape given core s quiet is valid has few takes. byte_ahead shape given core s quiet is valid has few takes
