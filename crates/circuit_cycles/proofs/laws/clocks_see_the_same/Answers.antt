use Rattle.circuit_cycles.proofs.Devices.{clocks_see_the_same}
use Rattle.circuit_cycles.proofs.laws.clocks_see_the_same.Goals as goal

pub returns : goal.returns
returns c = clocks_see_the_same
