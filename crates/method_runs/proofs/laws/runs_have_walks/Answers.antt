use Rattle.method_runs.proofs.Running.{runs_have_walks}
use Rattle.method_runs.proofs.laws.runs_have_walks.Goals as goal

pub returns : goal.returns
returns c = runs_have_walks c.steps_follow_walks.ensures c.typed_programs_keep.ensures c.typed_runs_fit.ensures
