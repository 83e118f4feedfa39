use Rattle.method_runs.proofs.TypedGraphsLemmas.Existing.{live_graphs_exist}
use Rattle.method_runs.proofs.typed_graphs.laws.live_graphs_exist.Goals as goal

pub returns : goal.returns
returns c = live_graphs_exist c.starts_follow_one_another.ensures
