use Rattle.method_runs.proofs.Following.{steps_follow_walks}
use Rattle.method_runs.proofs.laws.steps_follow_walks.Goals as goal

pub returns : goal.returns
returns c = steps_follow_walks c.steps_have_shapes.ensures c.fitting_states_are_well_formed.ensures c.rows_are_of_their_kinds.ensures
