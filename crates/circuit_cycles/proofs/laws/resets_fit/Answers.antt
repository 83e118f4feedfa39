use Rattle.circuit_cycles.proofs.ResetFits.{resets_fit}
use Rattle.circuit_cycles.proofs.laws.resets_fit.Goals as goal

pub returns : goal.returns
returns c = resets_fit
