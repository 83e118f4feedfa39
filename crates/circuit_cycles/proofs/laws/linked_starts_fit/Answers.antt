use Rattle.circuit_cycles.proofs.ResetFits.{linked_starts_fit}
use Rattle.circuit_cycles.proofs.laws.linked_starts_fit.Goals as goal

pub returns : goal.returns
returns c = linked_starts_fit
