use Rattle.method_runs.proofs.TypedGraphsLemmas.Staying.{reach_rows}
use Rattle.method_runs.proofs.typed_graphs.laws.typed_methods_reach_rows.Goals as goal

pub returns : goal.returns
returns c = reach_rows
