use Rattle.circuit_cycles.proofs.Going.{loading_goes_on}
use Rattle.circuit_cycles.proofs.laws.loads_go_on.Goals as goal

pub returns : goal.returns
returns c = loading_goes_on
