use Rattle.circuit_cycles.proofs.BareFits.{bare_starts_fit}
use Rattle.circuit_cycles.proofs.laws.bare_starts_fit.Goals as goal

pub returns : goal.returns
returns c = bare_starts_fit
