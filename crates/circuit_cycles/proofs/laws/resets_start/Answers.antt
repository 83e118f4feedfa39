use Rattle.circuit_cycles.proofs.Resets.{resets_start}
use Rattle.circuit_cycles.proofs.laws.resets_start.Goals as goal

pub returns : goal.returns
returns c = resets_start
