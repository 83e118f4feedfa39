use Rattle.activations.proofs.Trees.{activations_are_trees}
use Rattle.activations.proofs.laws.activations_are_trees.Goals as goal

pub returns : goal.returns
returns c = activations_are_trees c.steps_have_shapes.ensures c.fitting_states_are_well_formed.ensures
