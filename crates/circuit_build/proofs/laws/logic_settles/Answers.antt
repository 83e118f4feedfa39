use Rattle.circuit_build.proofs.Finished.{logic_settles}
use Rattle.circuit_build.proofs.laws.logic_settles.Goals as goal

pub returns : goal.returns
returns c = logic_settles
