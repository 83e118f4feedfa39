use Rattle.activations.proofs.Following.{steps_are_told}
use Rattle.activations.proofs.laws.steps_are_told.Goals as goal

pub returns : goal.returns
returns c = steps_are_told c.cycles_keep.ensures c.steps_have_shapes.ensures c.fitting_states_are_well_formed.ensures
