use Rattle.bound_causes.proofs.Compacting.{method_graphs_are_reached}
use Rattle.bound_causes.proofs.laws.method_graphs_are_reached.Goals as goal

pub returns : goal.returns
returns c = method_graphs_are_reached
