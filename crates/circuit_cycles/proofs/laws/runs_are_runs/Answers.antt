use Rattle.circuit_cycles.proofs.Clocks.{runs_are_runs}
use Rattle.circuit_cycles.proofs.laws.runs_are_runs.Goals as goal

pub returns : goal.returns
returns c = runs_are_runs
