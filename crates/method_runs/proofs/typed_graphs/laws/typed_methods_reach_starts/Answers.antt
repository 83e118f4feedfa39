use Rattle.method_runs.proofs.TypedGraphsLemmas.Staying.{reach_starts}
use Rattle.method_runs.proofs.typed_graphs.laws.typed_methods_reach_starts.Goals as goal

pub returns : goal.returns
returns c = reach_starts
