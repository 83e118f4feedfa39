use Rattle.method_runs.proofs.Graphs.{walks_are_of_graphs}
use Rattle.method_runs.proofs.laws.walks_are_of_graphs.Goals as goal

pub returns : goal.returns
returns c = walks_are_of_graphs
