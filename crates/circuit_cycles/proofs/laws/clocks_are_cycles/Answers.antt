use Rattle.circuit_cycles.proofs.Clocks.{clocks_are_cycles}
use Rattle.circuit_cycles.proofs.laws.clocks_are_cycles.Goals as goal

pub returns : goal.returns
returns c = clocks_are_cycles
