use Rattle.circuit_cycles.proofs.FromReset.{linked_runs}
use Rattle.circuit_cycles.proofs.laws.linked_runs_are_runs.Goals as goal

pub returns : goal.returns
returns c = linked_runs
