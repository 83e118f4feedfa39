use Rattle.counted_laws.proofs.Following.{runs_have_paths}
use Rattle.counted_laws.proofs.laws.runs_have_paths.Goals as goal

pub returns : goal.returns
returns c = runs_have_paths c.fitting_states_are_well_formed.ensures c.rows_are_of_their_kinds.ensures c.runs_have_walks.ensures c.first_walks_stand.ensures.unknown
