use Rattle.circuit_cycles.proofs.FromReset.{halts_stay}
use Rattle.circuit_cycles.proofs.laws.halts_stay.Goals as goal

pub returns : goal.returns
returns c = halts_stay
