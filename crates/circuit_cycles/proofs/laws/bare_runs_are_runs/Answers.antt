use Rattle.circuit_cycles.proofs.FromReset.{bare_runs}
use Rattle.circuit_cycles.proofs.laws.bare_runs_are_runs.Goals as goal

pub returns : goal.returns
returns c = bare_runs
