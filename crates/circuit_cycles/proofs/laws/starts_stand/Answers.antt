use Rattle.circuit_cycles.proofs.StartUp.{starts_stand}
use Rattle.circuit_cycles.proofs.laws.starts_stand.Goals as goal

pub returns : goal.returns
returns c = starts_stand
