use Rattle.activation_laws.proofs.CountedLemmas.Beginning.{runs_hold}
use Rattle.activation_laws.proofs.counted.laws.runs_hold_constants.Goals as goal

pub returns : goal.returns
returns c = runs_hold c.fitting_states_are_well_formed.ensures c.rows_are_of_their_kinds.ensures c.runs_have_walks.ensures c.first_walks_stand.ensures.unknown
